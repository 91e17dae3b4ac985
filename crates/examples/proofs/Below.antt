-- A test of all numbers below n, and a count of numbers of which only the first can pass.
use Rattle.std.proofs.Common.{◌≡◌, ℕ, zero, suc, ◌+◌, ◌-◌, ◌<◌, ◌≤◌, Bool, true, false, ◌&&◌, refl, ap, ◌∙◌, ⊎_elim, arith}
use Rattle.std.proofs.lemmas.Bool.{cases_lt, and_parts, and_from}
use Rattle.schedule.specs.Counting.{count_below}
use Rattle.schedule.proofs.Sums.{count_stops}

abbrev pub every_below : ℕ → (ℕ → Bool) → Bool
every_below zero f = true
every_below (suc n) f = f n && every_below n f

pub at_each : (n : ℕ) (f : ℕ → Bool) → every_below n f ≡ true → (i : ℕ) → i < n → f i ≡ true
at_each zero f e i h = absurd (omega arith)
at_each (suc n) f e i h =
    let (here, rest) = and_parts (f n) (every_below n f) e in
    ⊎_elim
    (λ (l : i < n). at_each n f rest i l)
    (λ (g : n ≤ i). let q : i ≡ n = omega arith in ap f q ∙ here)
    (cases_lt i n)

pub from_each : (n : ℕ) (f : ℕ → Bool) → ((i : ℕ) → i < n → f i ≡ true) → every_below n f ≡ true
from_each zero f h = refl
from_each (suc n) f h = and_from (f n) (every_below n f) (h n (omega arith)) (from_each n f (λ i l. h i (omega arith)))

pub count_front : (f : ℕ → Bool) (n k : ℕ) → n ≤ k → ((j : ℕ) → n ≤ j → f j ≡ false) → count_below k f ≡ count_below n f
count_front f n k l h = let e : k ≡ n + (k - n) = omega arith in ap (λ x. count_below x f) e ∙ count_stops f (k - n) n (λ j m _. h j m)

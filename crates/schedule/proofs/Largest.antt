-- The largest value below a number: no value is larger, and some value is it.
use Rattle.std.proofs.Common.{◌≡◌, ℕ, zero, suc, ◌+◌, ◌<◌, ◌≤◌, cond, ltb, sym, refl, ◌∙◌, ⊎_elim, add-one, arith}
use Rattle.std.proofs.lemmas.Bool.{cases_lt, cond-true, cond-false, lt-ltb, le-ltb}
use Rattle.std.proofs.lemmas.Bool.Decides.{nat_tests}
use Rattle.schedule.specs.Counting.{largest_below}

pub largest_none : (f : ℕ → ℕ) → largest_below 0 f ≡ 0
unfolding largest_below
largest_none f = refl

pub largest_more : (n : ℕ) (f : ℕ → ℕ) → largest_below (n + 1) f ≡ cond (ltb (largest_below n f) (f n)) (f n) (largest_below n f)
unfolding largest_below
largest_more n f = rw add-one refl

larger_left : (a b c : ℕ) → c ≤ a → c ≤ cond (ltb a b) b a
larger_left a b c h = grind (arith, nat_tests)

larger_right : (a b : ℕ) → b ≤ cond (ltb a b) b a
larger_right a b = grind (arith, nat_tests)

pub largest_high : (n : ℕ) (f : ℕ → ℕ) (i : ℕ) → i < n → f i ≤ largest_below n f
unfolding largest_below
largest_high zero f i h = absurd (omega arith)
largest_high (suc n) f i h =
    ⊎_elim
    (λ (l : i < n). larger_left (largest_below n f) (f n) (f i) (largest_high n f i l))
    (λ (g : n ≤ i). let e : i ≡ n = omega arith in rw e (larger_right (largest_below n f) (f n)))
    (cases_lt i n)

-- a largest value other than 0 is one of the values
pub largest_reached : (n : ℕ) (f : ℕ → ℕ) → 0 < largest_below n f → (i : ℕ) × (i < n) × (f i ≡ largest_below n f)
unfolding largest_below
largest_reached zero f h = absurd (omega arith)
largest_reached (suc n) f h =
    ⊎_elim
    (λ (l : largest_below n f < f n). (n, omega arith, sym (cond-true (ltb (largest_below n f) (f n)) (f n) (largest_below n f) (lt-ltb (largest_below n f) (f n) l))))
    (λ (g : f n ≤ largest_below n f).
    let e : cond (ltb (largest_below n f) (f n)) (f n) (largest_below n f) ≡ largest_below n f = cond-false (ltb (largest_below n f) (f n)) (f n) (largest_below n f) (le-ltb (largest_below n f) (f n) g) in
    let (i, l, q) = largest_reached n f (rw e at h) in
    (i, omega arith, q ∙ sym e))
    (cases_lt (largest_below n f) (f n))

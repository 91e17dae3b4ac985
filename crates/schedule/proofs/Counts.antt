-- Counts of a test that joins two, that nothing passes, or that at most one number passes.
use Rattle.std.proofs.Common.{◌≡◌, ℕ, zero, suc, ◌+◌, ◌<◌, ◌≤◌, Bool, true, false, cond, ◌⊎◌, refl, ⊎_elim, arith}
use Rattle.std.proofs.lemmas.Bool.{cases_Bool, cond-true, cond-false}
use Rattle.schedule.specs.Counting.{sum_below, count_below}

one_join : (a b c : Bool) → (a ≡ true → (b ≡ true) ⊎ (c ≡ true)) → cond a 1 0 ≤ cond b 1 0 + cond c 1 0
one_join true b c h = ⊎_elim (λ (e : b ≡ true). omega (arith, cond-true {A = ℕ} b 1 0 e)) (λ (e : c ≡ true). omega (arith, cond-true {A = ℕ} c 1 0 e)) (h refl)
one_join false b c h = omega arith

-- what passes the first test passes the second or the third
pub count_join : (n : ℕ) (a b c : ℕ → Bool) → ((i : ℕ) → i < n → a i ≡ true → (b i ≡ true) ⊎ (c i ≡ true)) → count_below n a ≤ count_below n b + count_below n c
unfolding sum_below
count_join zero a b c each = omega arith
count_join (suc n) a b c each = omega (arith, one_join (a n) (b n) (c n) (each n (omega arith)), count_join n a b c (λ i l. each i (omega arith)))

pub count_zero : (n : ℕ) (a : ℕ → Bool) → ((i : ℕ) → i < n → a i ≡ true → ⊥) → count_below n a ≡ 0
unfolding sum_below
count_zero zero a h = refl
count_zero (suc n) a h =
    ⊎_elim
    (λ (e : a n ≡ true). absurd (h n (omega arith) e))
    (λ (e : a n ≡ false). omega (arith, cond-false {A = ℕ} (a n) 1 0 e, count_zero n a (λ i l. h i (omega arith))))
    (cases_Bool (a n))

pub count_one : (n : ℕ) (a : ℕ → Bool) → ((i j : ℕ) → i < n → j < n → a i ≡ true → a j ≡ true → i ≡ j) → count_below n a ≤ 1
unfolding sum_below
count_one zero a h = omega arith
count_one (suc n) a h =
    ⊎_elim
    (λ (e : a n ≡ true).
    let none : count_below n a ≡ 0 = count_zero n a (λ i l y. let same : i ≡ n = h i n (omega arith) (omega arith) y e in omega arith) in
    omega (arith, cond-true {A = ℕ} (a n) 1 0 e))
    (λ (e : a n ≡ false). omega (arith, cond-false {A = ℕ} (a n) 1 0 e, count_one n a (λ i j k l. h i j (omega arith) (omega arith))))
    (cases_Bool (a n))

-- Euclid's steps give the greatest common divisor, and lcm_below gives the least common multiple.
use Rattle.std.proofs.Common.{◌≡◌, ℕ, zero, suc, ◌+◌, ◌%◌, ◌<◌, ◌≤◌, eqb, sym, refl, ◌∙◌, ⊎_elim, add-zero, mod-lt, add-one, arith}
use Prim.Native.Nat.{◌∣◌}
use native.Mathlib.Nat.{dvd_trans, one-dvd, pos_of_dvd_of_pos, le_of_dvd}
use Rattle.std.proofs.lemmas.Bool.{cases_lt, cond-false, ne_eqb}
use Rattle.schedule.specs.Hyperperiod.{gcd_within, gcd, lcm, lcm_below}
use Rattle.schedule.proofs.Divisors.{Greatest, Least, greatest_end, greatest_step, least_from_greatest}

-- a step, while something is left
gcd_within_more : (n a b : ℕ) → 0 < b → gcd_within (suc n) a b ≡ gcd_within n b (a % b)
unfolding gcd_within
gcd_within_more n a b h = cond-false (eqb b 0) a (gcd_within n b (a % b)) (ne_eqb b 0 (λ e. omega arith))

-- as many steps as the second number suffice, and more change nothing
gcd_enough : (n m a b : ℕ) → b ≤ n → b ≤ m → gcd_within n a b ≡ gcd_within m a b
unfolding gcd_within
gcd_enough zero zero a b h k = refl
gcd_enough zero (suc m) a zero h k = refl
gcd_enough zero (suc m) a (suc b) h k = absurd (omega arith)
gcd_enough (suc n) zero a zero h k = refl
gcd_enough (suc n) zero a (suc b) h k = absurd (omega arith)
gcd_enough (suc n) (suc m) a zero h k = refl
gcd_enough (suc n) (suc m) a (suc b) h k =
    let l : a % suc b < suc b = mod-lt a (omega arith) in
    gcd_within_more n a (suc b) (omega arith) ∙ (gcd_enough n m (suc b) (a % suc b) (omega arith) (omega arith) ∙ sym (gcd_within_more m a (suc b) (omega arith)))

gcd_within_greatest : (n a b : ℕ) → b ≤ n → Greatest a b (gcd_within n a b)
unfolding gcd_within
gcd_within_greatest zero a zero h = greatest_end a
gcd_within_greatest zero a (suc b) h = absurd (omega arith)
gcd_within_greatest (suc n) a zero h = greatest_end a
gcd_within_greatest (suc n) a (suc b) h =
    let l : a % suc b < suc b = mod-lt a (omega arith) in
    rw (gcd_within_more n a (suc b) (omega arith)) (greatest_step a (suc b) (gcd_within n (suc b) (a % suc b)) (gcd_within_greatest n (suc b) (a % suc b) (omega arith)))

pub gcd_greatest : (a b : ℕ) → Greatest a b (gcd a b)
gcd_greatest a b = gcd_within_greatest b a b (omega arith)

pub gcd_end : (a : ℕ) → gcd a 0 ≡ a
unfolding gcd_within
gcd_end a = refl

pub gcd_step : (a b : ℕ) → 0 < b → gcd a b ≡ gcd b (a % b)
gcd_step a zero h = absurd (omega arith)
gcd_step a (suc b) h =
    let l : a % suc b < suc b = mod-lt a h in
    gcd_within_more b a (suc b) h ∙ gcd_enough b (a % suc b) (suc b) (a % suc b) (omega arith) (omega arith)

pub gcd_positive : (a b : ℕ) → 0 < a → 0 < gcd a b
gcd_positive a b h = pos_of_dvd_of_pos (gcd_greatest a b).left h

pub lcm_least : (a b : ℕ) → 0 < a → 0 < b → Least a b (lcm a b)
lcm_least a b pa pb = least_from_greatest a b (gcd a b) pa pb (gcd_greatest a b)

pub lcm_positive : (a b : ℕ) → 0 < a → 0 < b → 0 < lcm a b
lcm_positive a b pa pb = (lcm_least a b pa pb).positive

pub lcm_none : (f : ℕ → ℕ) → lcm_below 0 f ≡ 1
unfolding lcm_below
lcm_none f = refl

pub lcm_more : (n : ℕ) (f : ℕ → ℕ) → lcm_below (n + 1) f ≡ lcm (lcm_below n f) (f n)
unfolding lcm_below
lcm_more n f = rw add-one refl

pub lcm_below_positive : (n : ℕ) (f : ℕ → ℕ) → ((i : ℕ) → i < n → 0 < f i) → 0 < lcm_below n f
unfolding lcm_below
lcm_below_positive zero f h = omega arith
lcm_below_positive (suc n) f h = lcm_positive (lcm_below n f) (f n) (lcm_below_positive n f (λ i l. h i (omega arith))) (h n (omega arith))

pub lcm_below_upto : (f : ℕ → ℕ) → ((i : ℕ) → 0 < f i) → (d n : ℕ) → lcm_below n f ≤ lcm_below (n + d) f
unfolding lcm_below
lcm_below_upto f h zero n = rw add-zero (omega arith)
lcm_below_upto f h (suc d) n =
    let e : n + suc d ≡ suc (n + d) = omega arith in
    let a : 0 < lcm_below (n + d) f = lcm_below_positive (n + d) f (λ i l. h i) in
    let w = lcm_least (lcm_below (n + d) f) (f (n + d)) a (h (n + d)) in
    let up : lcm_below (n + d) f ≤ lcm (lcm_below (n + d) f) (f (n + d)) = le_of_dvd w.positive w.left in
    rw e (omega (arith, lcm_below_upto f h d n, up))

-- each of the numbers divides their least common multiple ..
pub lcm_below_common : (n : ℕ) (f : ℕ → ℕ) → ((i : ℕ) → i < n → 0 < f i) → (i : ℕ) → i < n → f i ∣ lcm_below n f
unfolding lcm_below
lcm_below_common zero f h i l = absurd (omega arith)
lcm_below_common (suc n) f h i l =
    let w = lcm_least (lcm_below n f) (f n) (lcm_below_positive n f (λ j k. h j (omega arith))) (h n (omega arith)) in
    ⊎_elim
    (λ (b : i < n). dvd_trans (f i) (lcm_below_common n f (λ j k. h j (omega arith)) i b) w.left)
    (λ (g : n ≤ i). let e : i ≡ n = omega arith in rw e w.right)
    (cases_lt i n)

-- .. and it divides each other common multiple
pub lcm_below_divides : (n : ℕ) (f : ℕ → ℕ) → ((i : ℕ) → i < n → 0 < f i) → (m : ℕ) → ((i : ℕ) → i < n → f i ∣ m) → lcm_below n f ∣ m
unfolding lcm_below
lcm_below_divides zero f h m k = one-dvd m
lcm_below_divides (suc n) f h m k =
    let w = lcm_least (lcm_below n f) (f n) (lcm_below_positive n f (λ j l. h j (omega arith))) (h n (omega arith)) in
    w.least m (lcm_below_divides n f (λ j l. h j (omega arith)) m (λ i l. k i (omega arith))) (k n (omega arith))

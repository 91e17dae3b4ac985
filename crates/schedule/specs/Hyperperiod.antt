-- The largest offset of a plan, and its hyperperiod, the least common multiple of its periods.
use Rattle.std.specs.Prelude.{◌≡◌, ℕ, zero, suc, ◌*◌, ◌/◌, ◌%◌, ◌<◌, ◌≤◌, cond, ◌==◌}
use Rattle.std.specs.Int.{◌∣◌}
use Rattle.schedule.specs.Counting.{largest_below}
use Rattle.schedule.specs.Plan.{Plan, HasTask}

-- so many of Euclid's steps, at the most
unfoldable pub gcd_within : (steps a b : ℕ) → ℕ
gcd_within zero a b = a
gcd_within (suc n) a b = cond (b == 0) a (gcd_within n b (a % b))

-- the greatest common divisor: b steps are enough
abbrev pub gcd : (a b : ℕ) → ℕ
gcd a b = gcd_within b a b

-- the least common multiple
abbrev pub lcm : (a b : ℕ) → ℕ
lcm a b = (a / gcd a b) * b

-- the least common multiple of f 0 .. f (n - 1), taken in rising order
unfoldable pub lcm_below : ℕ → (ℕ → ℕ) → ℕ
lcm_below zero f = 1
lcm_below (suc n) f = lcm (lcm_below n f) (f n)

-- Omax, the largest offset
abbrev pub last_offset : Plan → ℕ
last_offset p = largest_below p.tasks (λ i. cond (p.present i) (p.offset i) 0)

-- P, the least common multiple of the periods
abbrev pub hyperperiod : Plan → ℕ
hyperperiod p = lcm_below p.tasks (λ i. cond (p.present i) (p.period i) 1)

-- What a hyperperiod is: the smallest positive number that every period divides.
pub record LeastCommonMultiple (p : Plan) (l : ℕ) : Type 0 where
  pub positive : 0 < l
  pub common : (i : ℕ) → HasTask p i → p.period i ∣ l
  pub least : (n : ℕ) → 0 < n → ((i : ℕ) → HasTask p i → p.period i ∣ n) → l ≤ n

-- What Omax is: no task has a larger offset, and some task has it, or it is 0.
pub record LargestOffset (p : Plan) (o : ℕ) : Type 0 where
  pub bounds : (i : ℕ) → HasTask p i → p.offset i ≤ o
  pub reached : 0 < o → (i : ℕ) × HasTask p i × (p.offset i ≡ o)

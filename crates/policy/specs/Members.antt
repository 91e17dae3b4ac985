-- The members of a set of tasks that is a word.
use Rattle.std.specs.Prelude.{◌≡◌, ℕ, zero, suc, ◌+◌, ◌-◌, ◌/◌, ◌%◌, ◌^◌, ◌<◌, ◌≤◌, Bool, true, false, cond, ◌==◌, List, [], ◌∷◌}

-- task i is in the set
abbrev pub has : ℕ → ℕ → Bool
has set i = (set / 2 ^ i) % 2 == 1

-- every member of the one set is a member of the other
abbrev pub Within : (a b : ℕ) → Type 0
Within a b = (i : ℕ) → i < 32 → has a i ≡ true → has b i ≡ true

-- r is the lowest member of the set from `low` on, or 32 where there is none
pub record NextIn (set low r : ℕ) : Type 0 where
  pub within : r ≤ 32
  pub onward : r < 32 → low ≤ r
  pub skipped : (k : ℕ) → low ≤ k → k < r → has set k ≡ false
  pub member : r < 32 → has set r ≡ true

-- the members among the n numbers from `low` on, rising
abbrev pub rising : (set low n : ℕ) → List ℕ
rising set low zero = []
rising set low (suc n) = cond (has set low) (low ∷ rising set (low + 1) n) (rising set (low + 1) n)

-- the members from `low` on, rising
abbrev pub members_from : (set low : ℕ) → List ℕ
members_from set low = rising set low (32 - low)

-- The order of jobs by their keys, under a relation "at or before" on keys.
use Rattle.std.specs.Prelude.{ℕ, Bool, true, false, not, ◌&&◌, ◌||◌, nat_lt}

-- Job i, of key a, stands before job j, of key b: a is at or before b and not the reverse, or each is at or before the
-- other and i is the lower task number.
abbrev pub stands_before : {K : Type 0} → (K → K → Bool) → K → ℕ → K → ℕ → Bool
stands_before le a i b j = le a b && (not (le b a) || nat_lt i j)

-- A first group before the others: of two keys in one group `le` decides.
abbrev pub grouped : {K : Type 0} → (K → K → Bool) → Bool → K → Bool → K → Bool
grouped le true a true b = le a b
grouped le true a false b = true
grouped le false a true b = false
grouped le false a false b = le a b

-- Sets of tasks as words, and what is left of each job as a list.
use Rattle.std.specs.Prelude.{ℕ, zero, suc, ◌+◌, ◌*◌, ◌^◌, Bool, true, false, List, slice_index}

-- 1 where a test is passed, and 0 where it is not
abbrev pub bit : Bool → ℕ
bit true = 1
bit false = 0

-- the word whose bit i, for each i below n, is 1 where the test passes i
unfoldable pub word_of : (ℕ → Bool) → ℕ → ℕ
word_of test zero = 0
word_of test (suc n) = bit (test n) * 2 ^ n + word_of test n

-- what is left of task i's job
abbrev pub left_of : List ℕ → ℕ → ℕ
left_of left i = slice_index left i

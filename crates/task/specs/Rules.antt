-- Which entries a table takes, and why it refuses the others. A table is a list of places, in which place i has the entry of task i.
use Rattle.std.specs.Prelude.{◌≡◌, ℕ, Bool, false, cond, not, ◌||◌, List, [], ◌∷◌, replicate, is_some, Some, None, Ok, Err, Option, Result, ◌==◌, nat_lt, slice_index_or, slice_set}
use Rattle.std.specs.Str.{bytes_eq}
use Rattle.task.specs.declared.entry.Entry.{Entry}
use Rattle.task.specs.declared.refusal.Refusal.{Refusal}
use Rattle.task.specs.declared.refusal.Refusal.TheVariants.{NumberTooLarge, NumberTaken, NoSuchTask, BadName, NameTaken, PeriodOutOfRange, DeadlineOutOfRange, RuntimeOutOfRange, OffsetTooLarge, CpusOutOfRange}
use Rattle.task.specs.Names.{is_name}

-- 0, or above the limit
abbrev pub outside : ℕ → ℕ → Bool
outside n limit = n == 0 || nat_lt limit n

-- a number of CPUs is from 1 to 8
abbrev pub cpus_refusal : ℕ → Option Refusal
cpus_refusal cpus = cond (outside cpus 8) (Some CpusOutOfRange) None

-- some task of the table bears the name
abbrev pub bears : List (Option Entry) → List ℕ → Bool
bears [] name = false
bears (None ∷ places) name = bears places name
bears (Some e ∷ places) name = bytes_eq e.name name || bears places name

-- what is wrong with the times of an entry: 1 ≤ T ≤ 60,000, 1 ≤ D ≤ T, 1 ≤ C ≤ D and O ≤ 1,000,000, checked in this order
abbrev pub times_refusal : Entry → Option Refusal
times_refusal e =
    cond (outside e.period 60000) (Some PeriodOutOfRange)
    (cond (outside e.deadline e.period) (Some DeadlineOutOfRange)
    (cond (outside e.runtime e.deadline) (Some RuntimeOutOfRange)
    (cond (nat_lt 1000000 e.offset) (Some OffsetTooLarge) None)))

-- why a table refuses an entry, checked in this order; None where it takes the entry
abbrev pub entry_refusal : List (Option Entry) → Entry → Option Refusal
entry_refusal places e =
    cond (nat_lt 31 e.number) (Some NumberTooLarge)
    (cond (is_some (slice_index_or places e.number None)) (Some NumberTaken)
    (cond (not (is_name e.name)) (Some BadName)
    (cond (bears places e.name) (Some NameTaken)
    (times_refusal e))))

-- why a table has no task of this number to let go, checked in this order; None where it has one
abbrev pub withdraw_refusal : List (Option Entry) → ℕ → Option Refusal
withdraw_refusal places n =
    cond (nat_lt 31 n) (Some NumberTooLarge)
    (cond (not (is_some (slice_index_or places n None))) (Some NoSuchTask) None)

-- a table without tasks: 32 empty places
abbrev pub no_tasks : List (Option Entry)
no_tasks = replicate 32 None

-- the table with one more entry, in its place
abbrev pub with_entry : List (Option Entry) → Entry → List (Option Entry)
with_entry places e = slice_set places e.number (Some e)

-- the table without the task of this number
abbrev pub without_entry : List (Option Entry) → ℕ → List (Option Entry)
without_entry places n = slice_set places n None

-- an answer that gives the refusal where there is one
abbrev pub Answers : {U : Type 0} → Option Refusal → Result U Refusal → Type 0
Answers refusal (Ok _) = refusal ≡ None
Answers refusal (Err r) = refusal ≡ Some r

-- The largest offset and the hyperperiod of a table: those of its plan, which no policy changes.
use Rattle.std.specs.Prelude.{ℕ, cond, is_some, Option}
use Rattle.schedule.specs.Counting.{largest_below}
use Rattle.schedule.specs.Hyperperiod.{lcm_below}
use Rattle.task.specs.declared.entry.Entry.{Entry}
use Rattle.policy.specs.Plans.{offset_of, period_of}

-- Omax
abbrev pub table_offset : (ℕ → Option Entry) → ℕ
table_offset at = largest_below 32 (λ i. cond (is_some (at i)) (offset_of (at i)) 0)

-- the period of the task in a place, and 1 where there is none
abbrev pub period_or_one : Option Entry → ℕ
period_or_one o = cond (is_some o) (period_of o) 1

-- P
abbrev pub table_period : (ℕ → Option Entry) → ℕ
table_period at = lcm_below 32 (λ i. period_or_one (at i))

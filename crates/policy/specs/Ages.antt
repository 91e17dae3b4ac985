-- How old the latest job of a place is.
use Rattle.std.specs.Prelude.{ℕ, ◌-◌, ◌%◌, Option}
use Rattle.task.specs.declared.entry.Entry.{Entry}
use Rattle.policy.specs.Plans.{offset_of, period_of}

-- how many slots the latest job is old at t: (t − O) mod T, and 0 before the first release
abbrev pub age_of : Option Entry → ℕ → ℕ
age_of o t = (t - offset_of o) % period_of o

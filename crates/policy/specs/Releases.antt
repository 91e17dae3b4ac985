-- The instant that the age of a place's latest job counts from.
use Rattle.std.specs.Prelude.{◌≡◌, ℕ, ◌+◌, ◌-◌, ◌%◌, ◌<◌, ◌≤◌, Some, None, Option}
use Rattle.task.specs.declared.entry.Entry.{Entry}

-- at t, b is the instant of the latest release of a task, or its offset where it has released no job yet
pub record Released (e : Entry) (t b : ℕ) : Type 0 where
  pub begun : e.offset ≤ b
  pub whole : (b - e.offset) % e.period ≡ 0
  pub recent : t < b + e.period
  pub first : t < b → b ≡ e.offset
  pub short : e.period ≤ 60000

-- the same of a place; of an empty one it is 0
abbrev pub Latest : Option Entry → (t b : ℕ) → Type 0
Latest None t b = b ≡ 0
Latest (Some e) t b = Released e t b

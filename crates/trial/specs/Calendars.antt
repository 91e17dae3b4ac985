-- What a calendar says of a place of the table, before an event and after it.
use Rattle.std.specs.Prelude.{◌≡◌, ℕ, ◌+◌, ◌-◌, ◌*◌, ◌<◌, ◌≤◌, List, Option, slice_index}
use Rattle.task.specs.declared.entry.Entry.{Entry}
use Rattle.policy.specs.Dispatch.{is_active}
use Rattle.policy.specs.Members.{has}
use Rattle.policy.specs.Releases.{Latest}
use Rattle.policy.specs.Sets.{left_of}
use Rattle.trial.specs.declared.calendar.Calendar.{Calendar}
use Rattle.trial.specs.Places.{is_due, opens, misses, CalmUntil}

-- place i is one of the eight of group g
abbrev pub InGroup : (g i : ℕ) → Type 0
InGroup g i = (8 * g ≤ i) × (i < 8 * g + 8)

-- before t: the calendar knows of place i since when its job is there, until when nothing happens, and whether its job is active
pub record Awaits (at : ℕ → Option Entry) (t : ℕ) (c : Calendar) (left : List ℕ) (i : ℕ) : Type 0 where
  pub latest : Latest (at i) (t - 1) (slice_index c.released i)
  pub calm : CalmUntil (at i) (t - 1) (slice_index c.events i)
  pub active_is : has c.active i ≡ is_active at left i

-- after t: rules 1 and 2 were applied to place i, whose job had r left, and the calendar knows the same of it from t on
pub record Arrived (at : ℕ → Option Entry) (t r : ℕ) (c : Calendar) (left : List ℕ) (i : ℕ) : Type 0 where
  pub latest : Latest (at i) t (slice_index c.released i)
  pub later : t < slice_index c.events i
  pub calm : CalmUntil (at i) t (slice_index c.events i)
  pub left_is : left_of left i ≡ opens (at i) t r
  pub active_is : has c.active i ≡ is_active at left i
  pub due_is : has c.due i ≡ is_due (at i) t
  pub missed_is : has c.missed i ≡ misses (at i) t r

-- place i is as it was
pub record Stays (c : Calendar) (left : List ℕ) (d : Calendar) (end : List ℕ) (i : ℕ) : Type 0 where
  pub released_kept : slice_index d.released i ≡ slice_index c.released i
  pub events_kept : slice_index d.events i ≡ slice_index c.events i
  pub left_kept : left_of end i ≡ left_of left i
  pub active_kept : has d.active i ≡ has c.active i
  pub due_kept : has d.due i ≡ has c.due i
  pub missed_kept : has d.missed i ≡ has c.missed i

-- no place of group g has an event before the group's
abbrev pub Soonest : (soonest events : List ℕ) (g : ℕ) → Type 0
Soonest soonest events g = (i : ℕ) → InGroup g i → slice_index soonest g ≤ slice_index events i

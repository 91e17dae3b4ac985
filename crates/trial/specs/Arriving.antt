-- What an event makes of a place.
use Rattle.std.specs.Prelude.{◌≡◌, ℕ, ◌<◌, ◌&&◌, is_some, Option, nat_lt}
use Rattle.task.specs.declared.entry.Entry.{Entry}
use Rattle.policy.specs.Releases.{Latest}
use Rattle.trial.specs.declared.arriving.Arrival.{Arrival}
use Rattle.trial.specs.Places.{is_due, opens, misses, CalmUntil}

-- at t, of a job with r left: whether it comes to its deadline, whether it misses it, what rules 1 and 2 leave, the latest release
-- then, and an instant up to which the place is calm
pub record Arrives (o : Option Entry) (t r : ℕ) (a : Arrival) : Type 0 where
  pub due_is : a.due ≡ is_due o t
  pub late_is : a.late ≡ misses o t r
  pub left_is : a.left ≡ opens o t r
  pub active_is : a.active ≡ (is_some o && nat_lt 0 a.left)
  pub latest : Latest o t a.released
  pub later : t < a.event
  pub calm : CalmUntil o t a.event

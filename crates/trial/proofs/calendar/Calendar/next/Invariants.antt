-- The first event of the groups so far.
use Rattle.std.proofs.Common.{ℕ, ◌<◌, ◌≤◌, get_or}
use Rattle.trial.proofs.calendar.Calendar.next.Given as goal

abbrev pub invariant-loop-soonest : goal.invariant-loop-soonest
invariant-loop-soonest l =
    ((g : ℕ) → g < l.soonest-index → l.next ≤ get_or l.self.soonest g 0)
    × ((t : ℕ) → t < 18446744073709551615 → ((g : ℕ) → g < l.soonest-index → t < get_or l.self.soonest g 0) → t < l.next)

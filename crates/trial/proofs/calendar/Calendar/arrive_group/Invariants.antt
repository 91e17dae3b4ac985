-- The places of the group before i are as the event leaves them, and the others as they were.
use Rattle.task.specs.Tables.{entry_at}
use Rattle.trial.proofs.Grouping.{Gone}
use Rattle.trial.proofs.calendar.Calendar.arrive_group.Given as goal

abbrev pub invariant-loop-i : goal.invariant-loop-i
invariant-loop-i l = Gone (entry_at l.tasks) l.t l.g l.initial.self l.initial.left l.self l.left l.soonest l.i

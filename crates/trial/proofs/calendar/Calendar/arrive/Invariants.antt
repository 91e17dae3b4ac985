-- The groups before g are as the event leaves them, and the places of the others as they were.
use Rattle.task.specs.Tables.{entry_at}
use Rattle.trial.proofs.Grouping.{Swept}
use Rattle.trial.proofs.calendar.Calendar.arrive.Given as goal

abbrev pub invariant-loop-g : goal.invariant-loop-g
invariant-loop-g l = Swept (entry_at l.tasks) l.t l.initial.self l.initial.left l.self l.left l.g

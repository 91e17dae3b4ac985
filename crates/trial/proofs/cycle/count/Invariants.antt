use Rattle.std.proofs.Common.{◌≡◌, ◌≤◌, is_some}
use Rattle.schedule.specs.Counting.{count_below}
use Rattle.task.specs.Tables.{entry_at}
use Rattle.trial.proofs.cycle.count.Given as goal

abbrev pub invariant-loop-place : goal.invariant-loop-place
invariant-loop-place l = (l.n ≤ l.place-index) × (l.n ≡ count_below l.place-index (λ i. is_some (entry_at l.tasks i)))

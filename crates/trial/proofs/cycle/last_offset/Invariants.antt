use Rattle.std.proofs.Common.{◌≡◌, ◌≤◌, cond, is_some}
use Rattle.schedule.specs.Counting.{largest_below}
use Rattle.task.specs.Tables.{entry_at}
use Rattle.policy.specs.Plans.{offset_of}
use Rattle.trial.proofs.cycle.last_offset.Given as goal

abbrev pub invariant-loop-place : goal.invariant-loop-place
invariant-loop-place l = (l.largest ≡ largest_below l.place-index (λ i. cond (is_some (entry_at l.tasks i)) (offset_of (entry_at l.tasks i)) 0)) × (l.largest ≤ 1000000)

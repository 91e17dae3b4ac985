use Rattle.std.proofs.Common.{◌≡◌, ◌<◌, ◌≤◌}
use Rattle.schedule.specs.Hyperperiod.{lcm_below}
use Rattle.task.specs.Tables.{entry_at}
use Rattle.trial.specs.Cycles.{period_or_one}
use Rattle.trial.proofs.cycle.hyperperiod.Given as goal

abbrev pub invariant-loop-place : goal.invariant-loop-place
invariant-loop-place l =
    (l.multiple ≡ lcm_below l.place-index (λ i. period_or_one (entry_at l.tasks i)))
    × (l.multiple ≤ 10000000) × (0 < l.multiple)

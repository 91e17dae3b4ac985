use Rattle.std.proofs.Common.{◌≡◌}
use Rattle.policy.specs.Sets.{word_of}
use Rattle.policy.proofs.Rising.{first, Along}
use Rattle.trial.specs.Slots.{is_finished}
use Rattle.trial.proofs.active.finished_jobs.Given as goal

abbrev pub invariant-loop-i : goal.invariant-loop-i
invariant-loop-i l =
    (goal.iterator-loop-i).can_next l.i-iterator
    × (goal.iterator-loop-i).is_finite l.i-iterator
    × Along l.ran l.i-iterator
    × (l.set ≡ word_of (is_finished l.ran l.left) (first l.i-iterator))

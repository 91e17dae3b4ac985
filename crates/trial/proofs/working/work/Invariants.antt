use Rattle.std.proofs.Common.{◌≡◌, ◌<◌, false}
use Rattle.policy.proofs.Each.{EachTo}
use Rattle.policy.proofs.Rising.{first, Along}
use Rattle.trial.specs.Slots.{worked}
use Rattle.trial.proofs.Giving.{Given}
use Rattle.trial.proofs.working.work.Given as goal

abbrev pub invariant-loop-i : goal.invariant-loop-i
invariant-loop-i l =
    let was = l.initial.left in
    let next = first l.i-iterator in
    (goal.iterator-loop-i).can_next l.i-iterator
    × (goal.iterator-loop-i).is_finite l.i-iterator
    × Along l.ran l.i-iterator
    × Given (λ k r. r ≡ worked l.ran was k) was l.left next
    × (l.finished ≡ false → EachTo l.ran (λ k. 0 < worked l.ran was k) next)

-- As many are counted as stand before the job, of those up to the next in the set and of those known.
use Rattle.policy.specs.Dispatch.{ahead_of}
use Rattle.policy.specs.Slots.{keys_of}
use Rattle.policy.proofs.Ahead.{Counted}
use Rattle.policy.proofs.slot.Slot.few_ahead.Given as goal

abbrev pub invariant-loop-j : goal.invariant-loop-j
invariant-loop-j g l =
    let p = g.P.Policy in
    (goal.iterator-loop-j g).can_next l.j-iterator
    × (goal.iterator-loop-j g).is_finite l.j-iterator
    × Counted l.rest (λ j. ahead_of (p.precedes l.self.policy.now) (keys_of p.keyed l.self j) j l.job.key l.job.place) l.ahead l.j-iterator

-- The last and the count are those of the members up to the next.
use Rattle.std.proofs.Common.{◌≡◌}
use Rattle.schedule.specs.Counting.{count_below}
use Rattle.policy.specs.Members.{has}
use Rattle.policy.specs.Slots.{LastTo}
use Rattle.policy.proofs.Rising.{first, Along}
use Rattle.policy.proofs.slot.Slot.last_of.Given as goal

abbrev pub invariant-loop-i : goal.invariant-loop-i
invariant-loop-i g l =
    let p = g.P.Policy in
    (goal.iterator-loop-i g).can_next l.i-iterator
    × (goal.iterator-loop-i g).is_finite l.i-iterator
    × Along l.set l.i-iterator
    × LastTo p.keyed p.precedes l.self l.set (first l.i-iterator) l.last
    × (l.count ≡ count_below (first l.i-iterator) (has l.set))

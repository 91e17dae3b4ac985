-- The jobs of the rest up to the next are admitted: all jobs up to it, where the choice began with none.
use Rattle.std.proofs.Common.{◌≡◌, ◌<◌, ◌⊎◌}
use Rattle.policy.specs.Members.{Within}
use Rattle.policy.specs.Slots.{RunOfMet, RunSoFar}
use Rattle.policy.proofs.Rising.{first, Along}
use Rattle.policy.proofs.slot.Slot.contest.Given as goal

abbrev pub invariant-loop-i : goal.invariant-loop-i
invariant-loop-i g l =
    let p = g.P.Policy in
    (goal.iterator-loop-i g).can_next l.i-iterator
    × (goal.iterator-loop-i g).is_finite l.i-iterator
    × Within l.contest.rest l.self.jobs
    × Along l.contest.rest l.i-iterator
    × RunOfMet p.keyed p.precedes l.self (first l.i-iterator) l.contest
    × ((l.kept ≡ 0) ⊎ (l.self.cpus < l.count) → RunSoFar p.keyed p.precedes l.self (first l.i-iterator) l.contest × Within l.self.jobs l.contest.rest)

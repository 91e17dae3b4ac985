use Rattle.std.proofs.Common.{◌≡◌, false}
use Rattle.task.specs.Tables.{entry_at}
use Rattle.policy.specs.Members.{has}
use Rattle.policy.specs.Plans.{plan_of}
use Rattle.policy.proofs.Each.{EachTo}
use Rattle.policy.proofs.Rising.{first, Along}
use Rattle.trial.specs.declared.trial.Outcome.TheVariants.{Ran}
use Rattle.trial.specs.Slots.{Watched}
use Rattle.trial.specs.Trials.{Undecided}
use Rattle.trial.proofs.trial.Trial.run.Given as goal

abbrev pub invariant-slots : goal.invariant-slots
invariant-slots g l =
    let p = g.P.Policy in
    let plan = plan_of (p.keyed l.policy) (p.precedes l.policy) (entry_at l.tasks) in
    Undecided plan l.initial.self l.counter l.self
    × Watched l.tasks l.self l.watch
    × (l.outcome ≡ Ran)

abbrev pub invariant-loop-i : goal.invariant-loop-i
invariant-loop-i g l =
    (goal.iterator-loop-i g).can_next l.i-iterator
    × (goal.iterator-loop-i g).is_finite l.i-iterator
    × Along l.due l.i-iterator
    × EachTo l.due (λ k. has l.watch.calendar.missed k ≡ false) (first l.i-iterator)
    × (l.outcome ≡ Ran)

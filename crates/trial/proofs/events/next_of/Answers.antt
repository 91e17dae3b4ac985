use Rattle.std.proofs.Common.{arith}
use Rattle.trial.proofs.Ages.{calm_between}
use Rattle.trial.proofs.events.next_of.Goals as goal

pub returns-then-t-deadline-clause-calm : goal.returns-then-t-deadline-clause-calm
returns-then-t-deadline-clause-calm c u l m =
    let a = c.args in
    let task = a.task.now in
    calm_between task.figures a.t a.released c.requires.latest u l (omega (arith, task.runs, task.fits)) task.constrained (omega arith) (omega (arith, task.constrained)) (λ z. omega arith)

pub returns-clause-calm : goal.returns-clause-calm
returns-clause-calm c u l m =
    let a = c.args in
    let task = a.task.now in
    calm_between task.figures a.t a.released c.requires.latest u l (omega (arith, task.runs, task.fits)) task.constrained (omega arith) (omega arith) (λ z. omega arith)

use Rattle.std.proofs.Common.{◌-◌, eqb, ap, ◌∙◌, arith}
use Rattle.trial.proofs.Ages.{due_past}
use Rattle.trial.proofs.opening.Turn.is_deadline.Goals as goal

pub returns-then-self : goal.returns-then-self
returns-then-self c =
    let a = c.args.self.now in
    let task = a.task.now in
    let r = a.latest in
    ap (eqb (a.instant - a.released)) (c.from.ensures ∙ c.deadline.ensures.0)
    ∙ due_past task.figures (a.instant - 1) a.released r a.instant (omega arith) (omega (arith, task.runs, task.fits)) task.constrained (omega arith) (omega (arith, r.recent))

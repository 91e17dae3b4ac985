use Rattle.std.proofs.Common.{◌-◌, eqb, ap, ◌∙◌, arith}
use Rattle.trial.proofs.Ages.{release_past}
use Rattle.trial.proofs.opening.Turn.is_release.Goals as goal

pub returns-else-self : goal.returns-else-self
returns-else-self c =
    let a = c.args.self.now in
    let e = a.task.now.figures in
    let r = a.latest in
    ap (eqb (a.instant - a.released)) (c.from.ensures ∙ c.period.ensures.0) ∙ release_past e (a.instant - 1) a.released r a.instant (omega arith) (omega arith) (omega (arith, r.recent))

use Rattle.std.proofs.Common.{◌≡◌, ◌<◌, sym, ap, ◌∙◌, arith}
use Rattle.schedule.specs.Hyperperiod.{gcd}
use Rattle.schedule.proofs.Multiples.{gcd_end, gcd_step}
use Rattle.trial.proofs.cycle.gcd.Goals as goal

pub loop-y-preserved : goal.loop-y-preserved
loop-y-preserved c =
    let some : 0 < c.loop-y.y = omega arith in
    sym (gcd_step c.loop-y.x c.loop-y.y some) ∙ c.loop-y.invariant

pub returns : goal.returns
returns c =
    let none : c.loop-y.y ≡ 0 = omega arith in
    sym (ap (gcd c.loop-y.x) none ∙ gcd_end c.loop-y.x) ∙ c.loop-y.invariant

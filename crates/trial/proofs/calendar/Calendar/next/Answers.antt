use Rattle.std.proofs.Common.{arith, below_more}
use Rattle.trial.proofs.calendar.Calendar.next.Goals as goal

pub loop-soonest-init : goal.loop-soonest-init
loop-soonest-init c = (λ g h. absurd (omega arith), λ t h all. h)

pub loop-soonest-preserved : goal.loop-soonest-preserved
loop-soonest-preserved c =
    let l = c.loop-soonest in (
      below_more _ _ (λ g h. omega (arith, c.min-next.ensures, l.invariant.0 g h)) (omega (arith, c.min-next.ensures)),
      λ t h all. omega (arith, c.min-next.ensures, l.invariant.1 t h (λ g m. all g (omega arith)), all l.soonest-index (omega arith)),
    )

pub returns-clause-soonest : goal.returns-clause-soonest
returns-clause-soonest c g h = c.loop-soonest.invariant.0 g (omega arith)

pub returns-clause-later : goal.returns-clause-later
returns-clause-later c t h all = c.loop-soonest.invariant.1 t h (λ g m. all g (omega arith))

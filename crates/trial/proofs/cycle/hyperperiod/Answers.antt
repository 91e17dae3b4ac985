use Rattle.std.proofs.Common.{◌<◌, length, sym, ◌∙◌, arith, rules}
use Rattle.schedule.proofs.Multiples.{lcm_none, lcm_positive}
use Rattle.trial.proofs.Periods.{span_more, span_upto}
use Rattle.trial.proofs.cycle.hyperperiod.Goals as goal

pub loop-place-init : goal.loop-place-init
loop-place-init c = (sym (lcm_none _), omega arith, omega arith)

pub returns-in_err-multiple : goal.returns-in_err-multiple
returns-in_err-multiple c =
    let ts = c.args.tasks.now in
    let i = c.loop-place.place-index in
    let lt : i < length ts = search rules in
    let e = span_more ts i c.loop-place.multiple c.period_in.result c.place-item.result lt c.loop-place.invariant.0 c.period_in.ensures.period in
    rw c.from_residual.ensures (omega (arith, e, span_upto ts i (omega arith), c.in_err-multiple.ensures))

pub loop-place-preserved : goal.loop-place-preserved
loop-place-preserved c =
    let ts = c.args.tasks.now in
    let i = c.loop-place.place-index in
    let lt : i < length ts = search rules in
    let q = c.in_ok-multiple.ensures in
    let e = span_more ts i c.loop-place.multiple c.period_in.result c.place-item.result lt c.loop-place.invariant.0 c.period_in.ensures.period in
    (q.0 ∙ e, q.1, omega (arith, q.0, lcm_positive c.loop-place.multiple c.period_in.result c.loop-place.invariant.2 c.period_in.ensures.positive))

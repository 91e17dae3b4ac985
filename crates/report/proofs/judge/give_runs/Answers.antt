use Rattle.std.proofs.Common.{◌≡◌, ◌+◌, ◌*◌, sym, refl, ◌∙◌, subst, arith}
use Rattle.bench.specs.Judged.{GivenRuns, none}
use Rattle.bench.specs.Steps.{view, plan_for}
use Rattle.report.proofs.Giving.{stays_started, given_rest, same_but_mode, run_more}
use Rattle.report.proofs.judge.give_runs.Goals as goal

pub loop-init : goal.loop-init
loop-init g c = (refl, λ shut. (none, shut))

pub loop-preserved : goal.loop-preserved
loop-preserved g c =
    let key = g.P.Policy.keyed in
    let le = g.P.Policy.precedes in
    let v = view c.args.bench.now in
    let w = view c.loop.bench in
    let u = view c.give_run.new.bench in
    let same = c.loop.invariant.0 in (
      same_but_mode key le v w u same c.give_run.ensures.view,
      λ shut.
          let i = c.loop.invariant.1 shut in
          let e = c.give_run.ensures.run i.1 in
          let r = run_more key le v w u (c.loop.counter * 1000000) 1000000 same i.0 e.0 in
          let q : c.loop.counter * 1000000 + 1000000 ≡ (c.loop.counter + 1) * 1000000 = omega arith in
          (subst (λ n. GivenRuns (plan_for key le v) v.mode n u.mode) q r, stays_started (plan_for key le w) w.mode u.mode 1000000 e.0),
    )

pub returns-then-give_run : goal.returns-then-give_run
returns-then-give_run g c =
    let key = g.P.Policy.keyed in
    let le = g.P.Policy.precedes in
    let v = view c.args.bench.now in
    let w = view c.loop.bench in
    let u = view c.give_run.new.bench in
    let same = c.loop.invariant.0 in
    record {
      view = same_but_mode key le v w u same c.give_run.ensures.view;
      runs =
          λ shut.
          let i = c.loop.invariant.1 shut in
          let e = c.give_run.ensures.run i.1 in
          let r = run_more key le v w u (c.loop.counter * 1000000) 1000000 same i.0 e.0 in
          given_rest (plan_for key le v) v.mode u.mode (c.loop.counter * 1000000 + 1000000) 1000000000 (omega arith) (sym e.1 ∙ c.if-give_run.true) r;
    }

pub returns : goal.returns
returns g c =
    let e : c.loop.counter * 1000000 ≡ 1000000000 = omega arith in
    record {
      view = c.loop.invariant.0;
      runs = λ shut. subst (λ n. GivenRuns (plan_for g.P.Policy.keyed g.P.Policy.precedes (view c.args.bench.now)) c.args.bench.now.mode n c.loop.bench.mode) e (c.loop.invariant.1 shut).0;
    }

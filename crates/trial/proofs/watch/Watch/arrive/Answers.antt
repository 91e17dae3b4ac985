use Rattle.std.proofs.Common.{arith, ◌-◌}
use Rattle.trial.proofs.Watching.{latest_before}
use Rattle.trial.proofs.watch.Watch.arrive.Goals as goal

pub arrive-due-requires-clause-awaits : goal.arrive-due-requires-clause-awaits
arrive-due-requires-clause-awaits c i h =
    let w = c.args.self.now in
    record {
      latest = latest_before w i (w.calm - 1) h (omega (arith, w.onward)) (omega (arith, w.onward));
      calm = λ v l m. w.calm_is i h v (omega (arith, w.onward)) m;
      active_is = c.requires.active i h;
    }

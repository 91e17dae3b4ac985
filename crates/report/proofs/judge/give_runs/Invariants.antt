use Rattle.std.proofs.Common.{◌≡◌, ◌*◌}
use Rattle.bench.specs.declared.mode.Mode.TheVariants.{Open}
use Rattle.bench.specs.Judged.{GivenRuns}
use Rattle.bench.specs.Steps.{view, plan_for, with_mode}
use Rattle.report.proofs.judge.give_runs.Given as goal

abbrev pub invariant-loop : goal.invariant-loop
invariant-loop g l =
    (view l.bench ≡ with_mode (view l.initial.bench) l.bench.mode)
    × ((l.initial.bench.mode ≡ Open → ⊥) → GivenRuns (plan_for g.P.Policy.keyed g.P.Policy.precedes (view l.initial.bench)) l.initial.bench.mode (l.counter * 1000000) l.bench.mode × (l.bench.mode ≡ Open → ⊥))

use Rattle.bench.specs.Calls.{asking_set}
use Rattle.bench.specs.Steps.{view}
use Rattle.bench.proofs.Keeping.{lawful}
use Rattle.bench.proofs.bench.Bench.set.Goals as goal

pub returns-clause-law : goal.returns-clause-law
returns-clause-law g c = λ p log m.
    let v = view c.args.self.now in
    lawful g.P.Policy.keyed g.P.Policy.precedes p (g.met.P.Policy.total p) (g.met.P.Policy.transitive p) log v v asking_set c.shown.result m c.shown.ensures

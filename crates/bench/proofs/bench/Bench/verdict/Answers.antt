use Rattle.bench.specs.Calls.{asking_verdict}
use Rattle.bench.specs.Steps.{view}
use Rattle.bench.proofs.Keeping.{lawful}
use Rattle.bench.proofs.bench.Bench.verdict.Goals as goal

pub returns-clause-law : goal.returns-clause-law
returns-clause-law g c = λ p log m.
    let v = view c.args.self.now in
    lawful g.P.Policy.keyed g.P.Policy.precedes p (g.met.P.Policy.total p) (g.met.P.Policy.transitive p) log v v asking_verdict c.told.result m c.told.ensures

pub returns-clause-every_call : goal.returns-clause-every_call
returns-clause-every_call g c = λ p log x u call answer m s. lawful g.P.Policy.keyed g.P.Policy.precedes p (g.met.P.Policy.total p) (g.met.P.Policy.transitive p) log x u call answer m s

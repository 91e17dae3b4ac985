use Rattle.bench.specs.Calls.{running_for}
use Rattle.bench.specs.Steps.{view}
use Rattle.bench.proofs.Answering.{run_judged}
use Rattle.bench.proofs.Keeping.{lawful}
use Rattle.bench.proofs.bench.Bench.run.Goals as goal

pub returns-clause-judged : goal.returns-clause-judged
returns-clause-judged g c = λ m before s. run_judged g.P.Policy.keyed g.P.Policy.precedes (view c.args.self.now) c.args.n c.advance.result (view c.advance.new.self) c.advance.ensures m before s

pub returns-clause-law : goal.returns-clause-law
returns-clause-law g c = λ p log m.
    lawful g.P.Policy.keyed g.P.Policy.precedes p (g.met.P.Policy.total p) (g.met.P.Policy.transitive p) log (view c.args.self.now) (view c.advance.new.self) (running_for c.args.n) c.advance.result m c.advance.ensures

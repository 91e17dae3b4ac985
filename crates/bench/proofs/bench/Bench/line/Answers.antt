use Rattle.std.proofs.Common.{refl}
use Rattle.bench.specs.Calls.{asking_line, WrittenAnswer}
use Rattle.bench.specs.Steps.{view}
use Rattle.bench.proofs.Judging.{since_only}
use Rattle.bench.proofs.Keeping.{lawful}
use Rattle.bench.proofs.bench.Bench.line.Goals as goal

pub returns-clause-judged : goal.returns-clause-judged
returns-clause-judged g c = λ m n s. let b = c.args.self.now in since_only (g.P.Policy.keyed b.policy) (g.P.Policy.precedes b.policy) b.table.tasks m n b.mode s

pub returns-clause-law : goal.returns-clause-law
returns-clause-law g c = λ p log m.
    let r : WrittenAnswer = record { answer = c.write_line.result; buffer = c.write_line.new.buffer } in
    lawful g.P.Policy.keyed g.P.Policy.precedes p (g.met.P.Policy.total p) (g.met.P.Policy.transitive p) log (view c.args.self.now) (view c.args.self.now) (asking_line c.args.buffer.now) r m
    (c.write_line.ensures, refl)

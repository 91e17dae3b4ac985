-- By the rules alone: a wrong body is refused at once.
use Rattle.std.proofs.Common.{rules}
use Rattle.bench.proofs.bench.Bench.decide.Goals as goal

pub returns-in-Agreed-Running-clause-mode : goal.returns-in-Agreed-Running-clause-mode
returns-in-Agreed-Running-clause-mode g c = search rules

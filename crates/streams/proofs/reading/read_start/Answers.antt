-- By the rules alone: a wrong body is refused at once.
use Rattle.std.proofs.Common.{rules}
use Rattle.streams.proofs.reading.read_start.Goals as goal

pub returns-clause-start : goal.returns-clause-start
returns-clause-start g c = search rules

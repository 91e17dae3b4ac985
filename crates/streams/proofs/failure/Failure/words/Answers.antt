-- By the rules alone: a wrong body is refused at once.
use Rattle.std.proofs.Common.{rules}
use Rattle.streams.proofs.failure.Failure.words.Goals as goal

pub returns-in-Output : goal.returns-in-Output
returns-in-Output c = search rules

-- By the rules alone: a wrong body is refused at once.
use Rattle.std.proofs.Common.{rules}
use Rattle.streams.proofs.failure.memory_or.Goals as goal

pub returns-in_default : goal.returns-in_default
returns-in_default c = search rules

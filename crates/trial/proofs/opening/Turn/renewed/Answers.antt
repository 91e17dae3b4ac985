-- By the rules alone: a wrong body is refused at once.
use Rattle.std.proofs.Common.{rules}
use Rattle.trial.proofs.opening.Turn.renewed.Goals as goal

pub returns-else-self : goal.returns-else-self
returns-else-self c = search rules

-- By the rules alone: a wrong body is refused at once.
use Rattle.std.proofs.Common.{rules}
use Rattle.trial.proofs.opening.Turn.opens.Goals as goal

pub returns-then-is_release : goal.returns-then-is_release
returns-then-is_release c = search rules

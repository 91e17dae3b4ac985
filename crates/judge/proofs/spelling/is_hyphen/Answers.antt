-- By the rules alone: a wrong body is refused at once.
use Rattle.std.proofs.Common.{rules}
use Rattle.judge.proofs.spelling.is_hyphen.Goals as goal

pub returns-in-45 : goal.returns-in-45
returns-in-45 c = search rules

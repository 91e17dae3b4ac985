-- By the rules alone: a wrong body is refused at once.
use Rattle.std.proofs.Common.{rules}
use Rattle.judge.proofs.spelling.without_return.Goals as goal

pub returns-in-13 : goal.returns-in-13
returns-in-13 c = search rules

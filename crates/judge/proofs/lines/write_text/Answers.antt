-- By the rules alone: a wrong body is refused at once.
use Rattle.std.proofs.Common.{rules}
use Rattle.judge.proofs.lines.write_text.Goals as goal

pub returns : goal.returns
returns g c = search rules

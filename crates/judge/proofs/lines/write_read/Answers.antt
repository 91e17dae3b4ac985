-- By the rules alone: a wrong body is refused at once.
use Rattle.std.proofs.Common.{rules}
use Rattle.judge.proofs.lines.write_read.Goals as goal

pub returns-in_err-line : goal.returns-in_err-line
returns-in_err-line g c = search rules

-- By the rules alone: a wrong body is refused at once.
use Rattle.std.proofs.Common.{rules}
use Rattle.streams.proofs.ending.end_program.Goals as goal

pub returns-in-Err : goal.returns-in-Err
returns-in-Err g c = search rules

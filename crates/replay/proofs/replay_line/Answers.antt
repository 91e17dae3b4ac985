-- By the rules alone: a wrong body is refused at once.
use Rattle.std.proofs.Common.{rules}
use Rattle.replay.proofs.replay_line.Goals as goal

pub returns : goal.returns
returns g c = search rules

-- By the rules alone: a wrong body is refused at once.
use Rattle.std.proofs.Common.{rules}
use Rattle.trial.proofs.watch.Watch.missed.Goals as goal

pub returns : goal.returns
returns c = search rules

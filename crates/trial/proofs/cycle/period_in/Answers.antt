-- By the rules alone: a wrong body is refused at once.
use Rattle.std.proofs.Common.{rules}
use Rattle.trial.proofs.cycle.period_in.Goals as goal

pub returns-in-None-clause-period : goal.returns-in-None-clause-period
returns-in-None-clause-period c = search rules

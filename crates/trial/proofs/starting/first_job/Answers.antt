-- By the rules alone: a wrong body is refused at once.
use Rattle.std.proofs.Common.{rules}
use Rattle.trial.proofs.starting.first_job.Goals as goal

pub returns-in-Some : goal.returns-in-Some
returns-in-Some c = search rules

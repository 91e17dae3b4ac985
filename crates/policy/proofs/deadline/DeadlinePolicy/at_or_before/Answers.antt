-- By the rules alone: a wrong body is refused at once.
use Rattle.std.proofs.Common.{rules}
use Rattle.policy.proofs.deadline.DeadlinePolicy.at_or_before.Goals as goal

pub returns : goal.returns
returns c = search rules

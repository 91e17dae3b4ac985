-- By the rules alone: a wrong body is refused at once.
use Rattle.std.proofs.Common.{rules}
use Rattle.policy.proofs.choosing.stands_before.Goals as goal

pub returns-else-a-b : goal.returns-else-a-b
returns-else-a-b g c = search rules

-- By the rules alone: a wrong body is refused at once.
use Rattle.std.proofs.Common.{rules}
use Rattle.policy.proofs.layer.HeavyFirstPolicy.at_or_before.Goals as goal

pub returns-then-a-b : goal.returns-then-a-b
returns-then-a-b g c = search rules

pub returns-else-a-b : goal.returns-else-a-b
returns-else-a-b g c = search rules

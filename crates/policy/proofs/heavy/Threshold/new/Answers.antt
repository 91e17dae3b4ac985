-- By the rules alone: a wrong body is refused at once.
use Rattle.std.proofs.Common.{rules}
use Rattle.policy.proofs.heavy.Threshold.new.Goals as goal

pub returns-then-not-contains : goal.returns-then-not-contains
returns-then-not-contains c = search rules

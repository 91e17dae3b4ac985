-- By computing: a wrong body is refused at once.
use Rattle.std.proofs.Common.{refl}
use Rattle.policy.proofs.walk.members_of.Goals as goal

pub returns : goal.returns
returns c = refl

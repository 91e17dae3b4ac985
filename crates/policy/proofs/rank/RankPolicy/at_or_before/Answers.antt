-- By computing: a wrong body is refused at once.
use Rattle.std.proofs.Common.{refl}
use Rattle.policy.proofs.rank.RankPolicy.at_or_before.Goals as goal

pub returns : goal.returns
returns c = refl

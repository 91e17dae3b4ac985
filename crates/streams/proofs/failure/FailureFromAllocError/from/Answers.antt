-- By computing: a wrong body is refused at once.
use Rattle.std.proofs.Common.{refl}
use Rattle.streams.proofs.failure.FailureFromAllocError.from.Goals as goal

pub returns : goal.returns
returns c = refl

-- By the callee's promise alone: a wrong body is refused at once.
use Rattle.streams.proofs.failure.Failure.on_reading.Goals as goal

pub returns : goal.returns
returns c = c.memory_or.ensures

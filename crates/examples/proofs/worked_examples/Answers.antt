use Rattle.examples.proofs.Computed.{all_right}
use Rattle.examples.proofs.worked_examples.Goals as goal

pub returns : goal.returns
returns c = all_right

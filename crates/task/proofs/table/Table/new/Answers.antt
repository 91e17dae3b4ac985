use Rattle.std.proofs.Common.{refl}
use Rattle.task.proofs.Holding.{numbered_none, distinct_none}
use Rattle.task.proofs.table.Table.new.Goals as goal

pub invariant_of-result : goal.invariant_of-result
invariant_of-result c = record { places = refl; numbered = numbered_none; distinct = distinct_none }

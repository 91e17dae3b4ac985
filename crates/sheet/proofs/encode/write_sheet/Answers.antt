use Rattle.std.proofs.Common.{arith}
use Rattle.sheet.proofs.encode.write_sheet.Goals as goal

pub put-requires : goal.put-requires
put-requires c = omega (arith, c.put-at.ensures.upto, c.put_tasks-at.ensures.next)

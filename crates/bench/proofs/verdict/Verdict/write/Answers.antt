use Rattle.std.proofs.Common.{codes, arith}
use Rattle.bench.proofs.Writing.{short_two, short_few, short_one}
use Rattle.bench.proofs.verdict.Verdict.write.Goals as goal

pub put_line-requires : goal.put_line-requires
put_line-requires c = omega (arith, c.requires, short_two (codes "HOLDS") c.in-Holds.first c.in-Holds.second (omega arith) (omega arith) (omega arith))

pub put_line-requires-in-Missed : goal.put_line-requires-in-Missed
put_line-requires-in-Missed c = omega (arith, c.requires, short_few (codes "MISSED") c.from.result c.in-Missed.instant (omega arith) (omega arith) (omega arith))

pub put_line-requires-in-Running : goal.put_line-requires-in-Running
put_line-requires-in-Running c = omega (arith, c.requires, short_one (codes "RUNNING") c.in-Running.instant (omega arith) (omega arith))

pub returns-in-Holds-clause-short : goal.returns-in-Holds-clause-short
returns-in-Holds-clause-short c = omega (arith, c.put_line.ensures.long, short_two (codes "HOLDS") c.in-Holds.first c.in-Holds.second (omega arith) (omega arith) (omega arith))

pub returns-in-Missed-clause-short : goal.returns-in-Missed-clause-short
returns-in-Missed-clause-short c = omega (arith, c.put_line-in-Missed.ensures.long, short_few (codes "MISSED") c.from.result c.in-Missed.instant (omega arith) (omega arith) (omega arith))

pub returns-in-Running-clause-short : goal.returns-in-Running-clause-short
returns-in-Running-clause-short c = omega (arith, c.put_line-in-Running.ensures.long, short_one (codes "RUNNING") c.in-Running.instant (omega arith) (omega arith))

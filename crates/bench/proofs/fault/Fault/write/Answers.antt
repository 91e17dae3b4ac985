use Rattle.std.proofs.Common.{◌≡◌, length, codes, arith, rules}
use Rattle.bench.proofs.Writing.{short_few, short_one}
use Rattle.bench.proofs.fault.Fault.write.Goals as goal
use Rattle.bench.proofs.fault.Fault.write.Goals.{in-Sheet, in-Refused}

pub put_line-requires : goal.put_line-requires
put_line-requires c =
    let n : length c.match-fault.word.now ≡ 9 = elim c.match-fault.branch [ in-Sheet w ↦ search rules | in-Refused w ↦ search rules ] in
    omega (arith, c.requires, short_few c.match-fault.word.now c.from.result c.place.result (omega (arith, n)) (omega arith) (omega arith))

pub put_line-requires-in-Start : goal.put_line-requires-in-Start
put_line-requires-in-Start c = omega (arith, c.requires, short_one (codes "REFUSED B") c.from-in-Start.result (omega arith) (omega arith))

pub returns-after-fault-clause-short : goal.returns-after-fault-clause-short
returns-after-fault-clause-short c =
    let n : length c.match-fault.word.now ≡ 9 = elim c.match-fault.branch [ in-Sheet w ↦ search rules | in-Refused w ↦ search rules ] in
    omega (arith, c.put_line.ensures.long, short_few c.match-fault.word.now c.from.result c.place.result (omega (arith, n)) (omega arith) (omega arith))

pub returns-in-Start-clause-short : goal.returns-in-Start-clause-short
returns-in-Start-clause-short c = omega (arith, c.put_line-in-Start.ensures.long, short_one (codes "REFUSED B") c.from-in-Start.result (omega arith) (omega arith))

pub returns-in-Start-clause-text : goal.returns-in-Start-clause-text
returns-in-Start-clause-text c = search rules

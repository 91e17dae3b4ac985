use Rattle.std.proofs.Common.{ℕ, ◌-◌, ◌<◌, [], ◌∷◌, length, get_or, take, drop, refl, arith, rules, ltb-false}
use Rattle.sheet.proofs.Opened.{opened}
use Rattle.sheet.proofs.Records.{reads_as}
use Rattle.sheet.proofs.decode.next_task.Goals as goal

pub returns-in-Some : goal.returns-in-Some
returns-in-Some c =
    let f : (i : ℕ) → get_or c.args.bytes.now i 0 < 256 = λ i. let z = c.type_inv.bytes i in omega arith in
    let s = take (length c.args.bytes.now - 2) (drop 2 c.args.bytes.now) in
    let q = c.in-Some.ensures in
    reads_as c.args.place c.args.bytes.now s c.in-Some.entry c.in-Some.rest.now f
    (opened (84 ∷ 75 ∷ []) c.args.bytes.now 2 refl (omega (arith, ltb-false)) (search rules, (search rules, tt))) q.0 q.1 q.2

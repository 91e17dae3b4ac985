use Rattle.std.proofs.Common.{◌≡◌, ◌-◌, ◌≤◌, length, take, rules, ap, ◌∙◌, arith}
use Rattle.std.proofs.lemmas.List.{take_min, length-take-le}
use Rattle.std.proofs.lemmas.Slice.{overwrites}
use Rattle.sheet.proofs.Writing.{as_text}
use Rattle.sheet.proofs.buffer.put.Goals as goal

pub returns : goal.returns
returns c =
    let m : c.min.result ≤ length c.args.bytes.now = omega (arith, c.min.ensures) in
    let e : c.copy_from_slice.new.self ≡ take c.min.result c.args.bytes.now = c.copy_from_slice.ensures.after ∙ ap (λ n. take n c.args.bytes.now) (omega arith) in
    as_text c.args.at _ (take c.min.result c.args.bytes.now) _ _ _ (rw c.min.ensures (take_min (length c.args.buffer.now - c.args.at) c.args.bytes.now))
    (record {
      upto = omega (arith, length-take-le c.min.result c.args.bytes.now m);
      front = search (rules, overwrites, e);
      back = λ n h. search (rules, overwrites);
    })

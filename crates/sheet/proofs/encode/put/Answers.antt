use Rattle.std.proofs.Common.{refl, rules}
use Rattle.std.proofs.lemmas.Slice.{overwrites}
use Rattle.sheet.proofs.encode.put.Goals as goal

pub returns : goal.returns
returns c = record {
  upto = refl;
  front = search (rules, overwrites);
  back = λ n h. search (rules, overwrites);
}

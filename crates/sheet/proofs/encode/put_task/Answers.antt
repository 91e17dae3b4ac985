use Rattle.std.proofs.Common.{[], ◌∷◌, ◌∙◌, arith}
use Rattle.sheet.proofs.Writing.{text_more, as_text, two_bytes, four_bytes, regroup, parts, record_length}
use Rattle.sheet.proofs.encode.put_task.Goals as goal

pub returns : goal.returns
returns c =
    let e = c.args.task.now.figures in
    let w1 = c.put-at.ensures in
    let w2 = text_more c.args.at _ _ _ _ _ _ _ w1 c.put-at-2.ensures in
    let w3 = text_more c.args.at _ _ _ _ _ _ _ w2 c.put-at-3.ensures in
    let w4 = text_more c.args.at _ _ _ _ _ _ _ w3 c.put-at-4.ensures in
    let w5 = text_more c.args.at _ _ _ _ _ _ _ w4 c.put-at-5.ensures in
    let w6 = text_more c.args.at _ _ _ _ _ _ _ w5 c.put-at-6.ensures in
    let w7 = text_more c.args.at _ _ _ _ _ _ _ w6 c.put.ensures in
    let o = four_bytes _ _ _ c.to_be_bytes.ensures c.offset.ensures.0 (omega arith) in
    let r = two_bytes _ _ _ c.to_be_bytes-2.ensures c.runtime.ensures.0 (omega arith) in
    let d = two_bytes _ _ _ c.to_be_bytes-3.ensures c.deadline.ensures.0 (omega arith) in
    let p = two_bytes _ _ _ c.to_be_bytes-4.ensures c.period.ensures.0 (omega arith) in
    let q = parts e _ _ _ _ _ _ _ c.number.ensures.0 c.name.ensures.0 c.rank.ensures o r d p in
    let w = as_text c.args.at _ _ _ _ _ (regroup (84 ∷ 75 ∷ c.number.result ∷ []) c.name.result (c.rank.result ∷ []) c.to_be_bytes.result c.to_be_bytes-2.result c.to_be_bytes-3.result c.to_be_bytes-4.result ∙ q) w7 in
    record { written = w; next = omega (arith, w.upto, record_length e c.args.task.now.eight) }

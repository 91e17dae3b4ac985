use Rattle.std.proofs.Common.{ℕ, ◌-◌, List, [], Bor, length, take, sym, ap, ◌∙◌}
use Rattle.std.proofs.lemmas.List.{take_all, take_more, flat_map_more}
use Rattle.sheet.specs.Buffers.{joined}
use Rattle.sheet.proofs.Writing.{as_text, text_cut, text_whole}
use Rattle.sheet.proofs.buffer.put_all.Goals as goal

pub loop-piece-preserved : goal.loop-piece-preserved
loop-piece-preserved c =
    let none : Bor (List ℕ) = record { ref_ptr = (0, 0); now = [] } in
    let more = flat_map_more (λ (p : Bor (List ℕ)). p.now) [] (take c.loop-piece.piece-index c.args.pieces.now) _ ∙ ap joined (sym (take_more c.args.pieces.now c.loop-piece.piece-index none c.loop-piece-test.true)) in
    as_text c.args.at _ _ _ _ _ (ap (λ (x : List ℕ). take (length c.args.buffer.now - c.args.at) x) more)
    (text_cut c.args.at c.loop-piece.end c.put-end.result _ _ _ c.loop-piece.buffer _ c.loop-piece.auto.buffer c.loop-piece.invariant c.put-end.ensures)

pub returns : goal.returns
returns c =
    let all = ap joined (take_all c.loop-piece.piece-index c.args.pieces.now c.loop-piece-test.false) in
    let w = as_text c.args.at _ _ _ _ _ (ap (λ (x : List ℕ). take (length c.args.buffer.now - c.args.at) x) all) c.loop-piece.invariant in
    record { fits = λ h. text_whole c.args.at _ _ _ _ h w; cut = w }

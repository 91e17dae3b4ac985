use Rattle.std.proofs.Common.{ℕ, List, ◌∷◌, ◌++◌, length, codes, sym, ap, ◌∙◌, append-nil, length-append, take, arith}
use Rattle.std.specs.List.{flat_map}
use Rattle.std.proofs.lemmas.List.{take_more, flat_map_more}
use Rattle.std.proofs.lemmas.List.Folds.{length-flat_map-take}
use Rattle.sheet.proofs.Writing.{as_text, text_more}
use Rattle.bench.specs.Lines.{spaced}
use Rattle.bench.proofs.text.put_line.Goals as goal

pub loop-n-preserved : goal.loop-n-preserved
loop-n-preserved c =
    let i = c.loop-n.n-index in
    let word = c.args.word.now in
    let numbers = c.args.numbers.now in
    let so_far = flat_map spaced (take i numbers) in
    let all = flat_map spaced numbers in
    let d = append-nil c.as_bytes.result.now ∙ (c.as_bytes.ensures.value ∙ c.format.ensures.text) in
    let more = ap (λ (x : List ℕ). (word ++ so_far) ++ (32 ∷ x)) d ∙ (flat_map_more spaced word (take i numbers) _ ∙ ap (λ x. word ++ flat_map spaced x) (sym (take_more numbers i 0 c.loop-n-test.true))) in
    as_text 0 _ _ _ _ _ more
    (text_more 0 c.loop-n.end c.put_all-end-in-loop-n.result _ _ _ c.loop-n.buffer _ c.loop-n.invariant (c.put_all-end-in-loop-n.ensures.fits
    (omega (arith, ap length d, c.loop-n.invariant.upto, c.requires, length-append word so_far, length-append (word ++ all) (codes "\n"), length-append word all, length-flat_map-take spaced numbers i 0 c.loop-n-test.true))))

use Rattle.std.proofs.Common.{ap, subst, ◌∙◌, Some, vec_items}
use Rattle.std.specs.Io.BufRead.{first_piece}
use Rattle.std.specs.Io.Iter.{split_byte, split_known_bytes, YieldsKnownPiece}
use Rattle.judge.proofs.Told.{weaker, begins, goes_on}
use Rattle.judge.proofs.lines.write_lines.Goals as goal

pub loop-line-init : goal.loop-line-init
loop-line-init g c =
    let same = c.into_iter-line-iterator.ensures.into_iter_gives in (
      ap split_byte same ∙ c.split-line-items.ensures.byte,
      begins (g.R.Read.remaining c.args.input) _ (g.W.Write.contents c.args.output.now) (ap (split_known_bytes g.R.Read.remaining) same ∙ c.split-line-items.ensures.bytes),
    )

pub loop-line-preserved : goal.loop-line-preserved
loop-line-preserved g c =
    let left = split_known_bytes g.R.Read.remaining c.loop-line.line-iterator in
    let next = split_known_bytes g.R.Read.remaining c.next.new.self in
    let inv = c.loop-line.invariant in
    let step = c.in-Some.ensures.steps in
    let yields = subst (λ b. YieldsKnownPiece vec_items (first_piece b) b left (Some c.in-Some.line) next) inv.0 step.2 in (
      step.1 ∙ inv.0,
      weaker (g.R.Read.remaining c.args.input) _ _ (λ input s. goes_on input left next _ _ _ c.in-Some.line c.in_ok-write_read.field-0 s yields c.in_ok-write_read.ensures) inv.1,
    )

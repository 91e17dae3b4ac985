use Rattle.std.proofs.Common.{◌≡◌, IfSome}
use Rattle.std.specs.Io.Iter.{split_byte, split_known_bytes}
use Rattle.judge.proofs.Told.{Standing}
use Rattle.judge.proofs.lines.write_lines.Given as goal

-- the lines before what is left of the input are printed
abbrev pub invariant-loop-line : goal.invariant-loop-line
invariant-loop-line g l =
    (split_byte l.line-iterator ≡ 10)
    × IfSome (g.R.Read.remaining l.fn.input) (λ input. Standing input (split_known_bytes g.R.Read.remaining l.line-iterator) (g.W.Write.contents l.fn.output) (g.W.Write.contents l.output))

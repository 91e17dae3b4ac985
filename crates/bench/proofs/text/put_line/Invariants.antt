use Rattle.std.proofs.Common.{◌++◌, take}
use Rattle.std.specs.List.{flat_map}
use Rattle.bench.specs.Lines.{spaced}
use Rattle.sheet.specs.Buffers.{Written}
use Rattle.bench.proofs.text.put_line.Given as goal

abbrev pub invariant-loop-n : goal.invariant-loop-n
invariant-loop-n l = Written 0 (l.word ++ flat_map spaced (take l.n-index l.numbers)) l.fn.buffer l.buffer l.end

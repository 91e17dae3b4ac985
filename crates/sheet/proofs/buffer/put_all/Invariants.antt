use Rattle.std.proofs.Common.{◌-◌, length, take}
use Rattle.sheet.specs.Buffers.{Written, joined}
use Rattle.sheet.proofs.buffer.put_all.Given as goal

abbrev pub invariant-loop-piece : goal.invariant-loop-piece
invariant-loop-piece l = Written l.at (take (length l.initial.buffer - l.at) (joined (take l.piece-index l.pieces))) l.initial.buffer l.buffer l.end

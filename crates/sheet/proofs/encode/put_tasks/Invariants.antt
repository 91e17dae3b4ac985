use Rattle.std.proofs.Common.{◌+◌, ◌*◌, ◌≤◌, length}
use Rattle.std.specs.List.{flat_map}
use Rattle.sheet.specs.Format.{tk}
use Rattle.sheet.specs.Buffers.{Written}
use Rattle.sheet.proofs.encode.put_tasks.Given as goal

abbrev pub invariant-loop-task : goal.invariant-loop-task
invariant-loop-task l = Written l.at (flat_map (λ t. tk t.now.figures) l.yielded) l.initial.buffer l.buffer l.end × (l.end ≤ l.at + 22 * length l.yielded)

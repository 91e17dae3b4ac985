use Rattle.std.proofs.Common.{◌≡◌, List, ◌++◌, length}
use Rattle.task.specs.declared.entry.Entry.{Entry}
use Rattle.task.specs.Tables.{Obey, entries, table_of}
use Rattle.sheet.specs.Format.{front}
use Rattle.sheet.proofs.decode.read_records.Given as goal

abbrev pub invariant-loop-entry : goal.invariant-loop-entry
invariant-loop-entry l = (es : List Entry) × Obey es × (l.bytes ≡ front l.cpus es ++ l.rest) × (entries l.table.tasks ≡ table_of es)

abbrev pub decreases-loop-entry : goal.decreases-loop-entry
decreases-loop-entry l = length l.rest

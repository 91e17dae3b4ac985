-- What holds of all sheets.
use Rattle.std.specs.Prelude.{◌≡◌, ℕ, ◌≤◌, List, take, Ok, Option}
use Rattle.task.specs.declared.entry.Entry.{Entry}
use Rattle.task.specs.declared.table.Table.{Table}
use Rattle.task.specs.Tables.{entries, table_of}
use Rattle.task.specs.Theorems.{HoldsJust}
use Rattle.sheet.specs.Format.{SheetOf}
use Rattle.sheet.specs.Decoding.{Answer, Decodes}
use Rattle.sheet.specs.Encoding.{listed, sheet_of}

-- any bytes have one answer at most
abbrev pub OneAnswer : Type 0
OneAnswer = (bytes : List ℕ) (a b : Answer) → Decodes bytes a → Decodes bytes b → a ≡ b

-- bytes that decode to CPUs and places are a sheet, whose entries the places hold, and no other; and a sheet decodes to its CPUs
-- and the table of its entries, and to nothing else
abbrev pub DecodesExactly : Type 0
DecodesExactly =
    (bytes : List ℕ) (cpus : ℕ)
    → ((places : List (Option Entry)) → Decodes bytes (Ok (cpus, places)) → (es : List Entry) × SheetOf cpus es bytes × HoldsJust es places)
    × ((es : List Entry) (a : Answer) → SheetOf cpus es bytes
    → (Decodes bytes a → a ≡ Ok (cpus, table_of es))
    × (a ≡ Ok (cpus, table_of es) → Decodes bytes a))

-- bytes have the same answer as the first 4,096 of them
abbrev pub PrefixSuffices : Type 0
PrefixSuffices = (bytes : List ℕ) (a : Answer) → Decodes bytes a → Decodes (take 4096 bytes) a

-- what is written of a table is a sheet of just its entries, and decodes to the CPUs and the table again
abbrev pub SavedLoadsBack : Type 0
SavedLoadsBack =
    (t : Table) (cpus : ℕ) → 1 ≤ cpus → cpus ≤ 8
    → SheetOf cpus (listed (entries t.tasks)) (sheet_of cpus (entries t.tasks))
    × Decodes (sheet_of cpus (entries t.tasks)) (Ok (cpus, entries t.tasks))

-- What holds of all tables.
use Rattle.std.specs.Prelude.{◌≡◌, ℕ, ◌≤◌, List, length, Some, None, Option, ◌≢◌, slice_index_or}
use Rattle.task.specs.declared.entry.Entry.{Entry}
use Rattle.task.specs.declared.table.Table.{Table}
use Rattle.task.specs.Rules.{entry_refusal, without_entry}
use Rattle.task.specs.Tables.{entries, InBounds, Obey, table_of, In}

-- the places hold each of the entries in the place of its number, and no other
abbrev pub HoldsJust : List Entry → List (Option Entry) → Type 0
HoldsJust es places =
    (e : Entry)
    → (In e es → slice_index_or places e.number None ≡ Some e)
    × ((i : ℕ) → slice_index_or places i None ≡ Some e → In e es)

-- the table of entries that obey the rules holds just these
abbrev pub HoldsJustThese : Type 0
HoldsJustThese = (es : List Entry) → Obey es → HoldsJust es (table_of es)

-- the number is free, and no task of the table bears the name
abbrev pub Free : List (Option Entry) → Entry → Type 0
Free places e =
    (slice_index_or places e.number None ≡ None)
    × ((i : ℕ) (b : Entry) → slice_index_or places i None ≡ Some b → b.name ≢ e.name)

-- a table takes just the entries that are in bounds and whose number and name are free
abbrev pub TakesJustLawfulEntries : Type 0
TakesJustLawfulEntries =
    (places : List (Option Entry)) (e : Entry) → length e.name ≡ 8 → e.rank ≤ 255
    → (entry_refusal places e ≡ None → InBounds e × Free places e)
    × (InBounds e → Free places e → entry_refusal places e ≡ None)

-- a task that was withdrawn may be entered again
abbrev pub WithdrawnMayReturn : Type 0
WithdrawnMayReturn =
    (t : Table) (n : ℕ) (e : Entry) → slice_index_or (entries t.tasks) n None ≡ Some e
    → entry_refusal (without_entry (entries t.tasks) n) e ≡ None

-- What is written of a table is a sheet, and decodes to the table.
use Rattle.std.proofs.Common.{◌≡◌, ℕ, cond, ltb, List, length, take, drop, IfOk, Some, None, Ok, Err, Result, sym, refl, ap, ◌∙◌, subst}
use Rattle.std.proofs.lemmas.List.{take_at}
use Rattle.task.specs.declared.refusal.Refusal.{Refusal}
use Rattle.task.specs.declared.refusal.Refusal.TheVariants.{CpusOutOfRange, BufferTooShort}
use Rattle.task.specs.declared.table.Table.{Table}
use Rattle.task.specs.Rules.{outside}
use Rattle.task.specs.Tables.{entries}
use Rattle.task.proofs.Obeying.{cond_none, inside}
use Rattle.sheet.specs.Format.{SheetOf}
use Rattle.sheet.specs.Decoding.{Decodes}
use Rattle.sheet.specs.Encoding.{listed, sheet_of, Encodes}
use Rattle.sheet.specs.Theorems.{SavedLoadsBack}
use Rattle.sheet.proofs.Listing.{table_obeys, table_again}

pub saved_loads_back : SavedLoadsBack
saved_loads_back t cpus a b =
    let s : SheetOf cpus (listed (entries t.tasks)) (sheet_of cpus (entries t.tasks)) = record { some = a; few = b; obey = table_obeys t; is = refl } in
    (s, record { told = listed (entries t.tasks); sheet = s; holds = sym (table_again t) })

-- what was written is the table's sheet
pub encoded_loads_back : (t : Table) (cpus : ℕ) (before after : List ℕ) (r : Result ℕ Refusal) → Encodes (entries t.tasks) cpus before after r
    → IfOk r (λ (n : ℕ). Decodes (take n after) (Ok (cpus, entries t.tasks)))
encoded_loads_back t cpus before after (Ok n) w =
    let c = inside cpus 8 (cond_none (outside cpus 8) CpusOutOfRange (cond (ltb (length before) 709) (Some BufferTooShort) None) w.0).0 in
    let e : take n after ≡ sheet_of cpus (entries t.tasks) = ap (take n) w.1.bytes ∙ take_at (sheet_of cpus (entries t.tasks)) (drop n before) n (sym w.1.long) in
    subst (λ (z : List ℕ). Decodes z (Ok (cpus, entries t.tasks))) (sym e) (saved_loads_back t cpus c.0 c.1).1
encoded_loads_back t cpus before after (Err x) w = tt

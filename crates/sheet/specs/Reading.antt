-- What is read of a single record.
use Rattle.std.specs.Prelude.{◌≡◌, ℕ, ◌<◌, Bool, false, List, ◌++◌, length, Some, None, Option}
use Rattle.std.specs.Borrow.{Bor}
use Rattle.task.specs.declared.entry.Entry.{Entry}
use Rattle.task.specs.Rules.{entry_refusal}
use Rattle.sheet.specs.declared.fault.LoadFault.TheVariants.{Sheet}
use Rattle.sheet.specs.declared.fault.Misread.{Misread}
use Rattle.sheet.specs.Format.{tk, en}
use Rattle.sheet.specs.Faults.{fault_at, refused_at}

-- the record has this fault of the form
abbrev pub Misreads : Bool → List (Option Entry) → ℕ → List ℕ → Misread → Type 0
Misreads first t place bytes m = fault_at first t place bytes ≡ Some (Sheet m.fault m.place)

-- an entry that a record has room for
pub record Typed (e : Entry) : Type 0 where
  pub number : e.number < 256
  pub name : length e.name ≡ 8
  pub rank : e.rank < 256
  pub offset : e.offset < 4294967296
  pub runtime : e.runtime < 65536
  pub deadline : e.deadline < 65536
  pub period : e.period < 65536

-- the bytes begin with the record TK of an entry, which has no fault but what the table refuses it for
pub record Reads (place : ℕ) (bytes : List ℕ) (e : Entry) (rest : List ℕ) : Type 0 where
  pub is : bytes ≡ tk e ++ rest
  pub typed : Typed e
  pub judged : (t : List (Option Entry)) → fault_at false t place bytes ≡ refused_at place (entry_refusal t e)

-- what the bytes begin with where a later record is due and its form has no fault: EN and no more, or a record TK
abbrev pub Next : ℕ → List ℕ → Option (Entry × Bor (List ℕ)) → Type 0
Next place bytes None = bytes ≡ en
Next place bytes (Some q) = Reads place bytes q.0 q.1.now

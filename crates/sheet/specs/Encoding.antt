-- How a table is written as a sheet.
use Rattle.std.specs.Prelude.{◌≡◌, ℕ, ◌≤◌, cond, List, [], ◌∷◌, ◌++◌, length, Some, None, Ok, Err, Option, Result, nat_lt}
use Rattle.task.specs.declared.entry.Entry.{Entry}
use Rattle.task.specs.declared.refusal.Refusal.{Refusal}
use Rattle.task.specs.declared.refusal.Refusal.TheVariants.{CpusOutOfRange, BufferTooShort}
use Rattle.task.specs.Rules.{outside}
use Rattle.sheet.specs.Buffers.{BeginsWith}
use Rattle.sheet.specs.Format.{en, front}

-- the entries of a table, in rising task numbers
abbrev pub listed : List (Option Entry) → List Entry
listed [] = []
listed (None ∷ places) = listed places
listed (Some e ∷ places) = e ∷ listed places

-- the sheet of a number of CPUs and a table, its records TK in rising task numbers
abbrev pub sheet_of : ℕ → List (Option Entry) → List ℕ
sheet_of cpus places = front cpus (listed places) ++ en

-- why a table is not written, checked in this order: the number of CPUs is not from 1 to 8, or the buffer has no room for the
-- longest sheet, of 709 bytes
abbrev pub save_refusal : (cpus room : ℕ) → Option Refusal
save_refusal cpus room = cond (outside cpus 8) (Some CpusOutOfRange) (cond (nat_lt room 709) (Some BufferTooShort) None)

-- what writing a table as a sheet does to a buffer, by its answer: the sheet's length, or the refusal
abbrev pub Encodes : List (Option Entry) → ℕ → List ℕ → List ℕ → Result ℕ Refusal → Type 0
Encodes places cpus before after (Ok n) = (save_refusal cpus (length before) ≡ None) × BeginsWith (sheet_of cpus places) before after n × (n ≤ 709)
Encodes places cpus before after (Err e) = (save_refusal cpus (length before) ≡ Some e) × (after ≡ before)

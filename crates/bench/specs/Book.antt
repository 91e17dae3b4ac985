-- The book: what one who sees only what a bench is handed, and never the bench or an answer, writes down of its calls.
use Rattle.std.specs.Prelude.{◌≡◌, ℕ, ◌+◌, Bool, true, false, ◌⊎◌, List, Some, None, Ok, Err, Option}
use Rattle.task.specs.declared.entry.Entry.{Entry}
use Rattle.task.specs.declared.refusal.Refusal.{Refusal}
use Rattle.task.specs.Rules.{no_tasks, with_entry, without_entry}
use Rattle.sheet.specs.declared.fault.LoadFault.{LoadFault}
use Rattle.sheet.specs.Decoding.{Decodes}
use Rattle.bench.specs.Calls.{Call, entering, withdrawing, loading, saving, starting, running_for, halting, asking_verdict, asking_set, asking_line, Log, no_calls, and_then}
use Rattle.bench.specs.Refusing.{refusal}

-- a table, whether the bench is started, on how many CPUs, and how many slots all runs since the start were to make
pub record Book : Type 0 where
  pub table : List (Option Entry)
  pub started : Bool
  pub cpus : ℕ
  pub slots : ℕ

-- the book of a new bench
abbrev pub blank : Book
blank = record { table = no_tasks; started = false; cpus = 0; slots = 0 }

-- the book with another table
abbrev pub with_table : Book → List (Option Entry) → Book
with_table b table = record { table = table; started = b.started; cpus = b.cpus; slots = b.slots }

-- the book when the bench is started on m CPUs ..
abbrev pub when_started : Book → ℕ → Book
when_started b m = record { table = b.table; started = true; cpus = m; slots = 0 }

-- .. when it is given a run of n slots ..
abbrev pub when_run : Book → ℕ → Book
when_run b n = record { table = b.table; started = b.started; cpus = b.cpus; slots = b.slots + n }

-- .. and when it is halted
abbrev pub when_halted : Book → Book
when_halted b = record { table = b.table; started = false; cpus = b.cpus; slots = b.slots }

-- why the book turns a call down: by the refusals of a bench, with the book in its place
abbrev pub foreseen : Book → Call → Option Refusal
foreseen b call = refusal b.started b.table call

-- a call that is turned down changes nothing
abbrev pub unless : Option Refusal → (new old : Book) → Book
unless None new old = new
unless (Some e) new old = old

-- the book after a load: the sheet's table, unless the book is started or the sheet has a fault
abbrev pub NotesLoad : (started : Bool) → Book → (sheet : List ℕ) → Book → Type 0
NotesLoad true b sheet c = c ≡ b
NotesLoad false b sheet c =
    ((cpus : ℕ) × (places : List (Option Entry)) × Decodes sheet (Ok (cpus, places)) × (c ≡ with_table b places))
    ⊎ ((f : LoadFault) × Decodes sheet (Err f) × (c ≡ b))

-- the book after a call
abbrev pub Notes : Book → Call → Book → Type 0
Notes b (entering e) c = c ≡ unless (foreseen b (entering e)) (with_table b (with_entry b.table e)) b
Notes b (withdrawing i) c = c ≡ unless (foreseen b (withdrawing i)) (with_table b (without_entry b.table i)) b
Notes b (loading sheet) c = NotesLoad b.started b sheet c
Notes b (saving cpus buffer) c = c ≡ b
Notes b (starting m) c = c ≡ unless (foreseen b (starting m)) (when_started b m) b
Notes b (running_for n) c = c ≡ unless (foreseen b (running_for n)) (when_run b n) b
Notes b halting c = c ≡ unless (foreseen b halting) (when_halted b) b
Notes b asking_verdict c = c ≡ b
Notes b asking_set c = c ≡ b
Notes b (asking_line buffer) c = c ≡ b

-- the book that is kept of a log; its answers are not looked at
abbrev pub Kept : Log → Book → Type 0
Kept no_calls b = b ≡ blank
Kept (and_then log call answer) c = (b : Book) × Kept log b × Notes b call c

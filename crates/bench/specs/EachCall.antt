-- What enter, withdraw, save, halt, verdict and set answer and make of a bench; and what any call does, by `Step`.
use Rattle.std.specs.Prelude.{◌≡◌, ℕ, Bool, List, Some, None, Ok, Err, Option, Result, count_ones}
use Rattle.task.specs.declared.entry.Entry.{Entry}
use Rattle.task.specs.declared.task.Task.{Task}
use Rattle.task.specs.declared.refusal.Refusal.{Refusal}
use Rattle.task.specs.Rules.{with_entry, without_entry}
use Rattle.task.specs.Tables.{entries}
use Rattle.sheet.specs.declared.fault.LoadFault.{LoadFault}
use Rattle.sheet.specs.Encoding.{sheet_of}
use Rattle.sheet.specs.Format.{SheetOf}
use Rattle.bench.specs.declared.mode.Mode.TheVariants.{Open}
use Rattle.bench.specs.declared.verdict.Verdict.{Verdict}
use Rattle.bench.specs.Calls.{Call, entering, withdrawing, loading, saving, starting, running_for, halting, asking_verdict, asking_set, asking_line, Answer}
use Rattle.bench.specs.Lines.{Writes}
use Rattle.bench.specs.Modes.{is_started, verdict_of, set_of}
use Rattle.bench.specs.Refusing.{refusal}
use Rattle.bench.specs.Steps.{View, with_mode, Loads, Starts, RanFor, Lines}

module _ {P : Type 0} where
  -- why a call of the bench is turned down
  abbrev pub turned_down : View P → Call → Option Refusal
  turned_down v call = refusal (is_started v.mode) (entries v.tasks) call

  -- the bench with other tasks
  abbrev pub with_tasks : View P → List (Option Task) → View P
  with_tasks v tasks = record { policy = v.policy; tasks = tasks; mode = v.mode }

  -- enter adds a task
  abbrev pub Enters : View P → Entry → Result (Unit {0}) Refusal → View P → Type 0
  Enters v e (Ok _) u =
      (turned_down v (entering e) ≡ None)
      × (entries u.tasks ≡ with_entry (entries v.tasks) e) × (u ≡ with_tasks v u.tasks)
  Enters v e (Err x) u = (turned_down v (entering e) ≡ Some x) × (u ≡ v)

  -- withdraw removes one
  abbrev pub Withdraws : View P → ℕ → Result (Unit {0}) Refusal → View P → Type 0
  Withdraws v i (Ok _) u =
      (turned_down v (withdrawing i) ≡ None)
      × (entries u.tasks ≡ without_entry (entries v.tasks) i) × (u ≡ with_tasks v u.tasks)
  Withdraws v i (Err x) u = (turned_down v (withdrawing i) ≡ Some x) × (u ≡ v)

  -- save writes the table as a sheet
  abbrev pub Saves : View P → ℕ → (before after : List ℕ) → Result ℕ Refusal → Type 0
  Saves v cpus before after r = Writes (turned_down v (saving cpus before)) (sheet_of cpus (entries v.tasks)) before after r

  -- halt opens the bench and keeps its table
  abbrev pub Halts : View P → Result (Unit {0}) Refusal → View P → Type 0
  Halts v (Ok _) u = (turned_down v halting ≡ None) × (u ≡ with_mode v Open)
  Halts v (Err x) u = (turned_down v halting ≡ Some x) × (u ≡ v)

  -- verdict answers the verdict
  abbrev pub TellsVerdict : View P → Result Verdict Refusal → Type 0
  TellsVerdict v (Ok y) = (turned_down v asking_verdict ≡ None) × (y ≡ verdict_of v.mode)
  TellsVerdict v (Err x) = turned_down v asking_verdict ≡ Some x

  -- set answers the running set and the number of its ones
  abbrev pub TellsSet : View P → Result (ℕ × ℕ) Refusal → Type 0
  TellsSet v (Ok q) = (turned_down v asking_set ≡ None) × (q.0 ≡ set_of v.mode) × (q.1 ≡ count_ones q.0)
  TellsSet v (Err x) = turned_down v asking_set ≡ Some x

module _ {P K : Type 0} (keyed : P → Entry → ℕ → K) (le : P → K → K → Bool) where
  -- what a call answers on a bench that is as v says, and the bench after it
  abbrev pub Step : View P → (call : Call) → Answer call → View P → Type 0
  Step v (entering e) r u = Enters v e r u
  Step v (withdrawing i) r u = Withdraws v i r u
  Step v (loading sheet) r u = Loads v sheet r u
  Step v (saving cpus before) r u = Saves v cpus before r.buffer r.answer × (u ≡ v)
  Step v (starting m) r u = Starts v m r u
  Step v (running_for n) r u = RanFor keyed le v n r u
  Step v halting r u = Halts v r u
  Step v asking_verdict r u = TellsVerdict v r × (u ≡ v)
  Step v asking_set r u = TellsSet v r × (u ≡ v)
  Step v (asking_line before) r u = Lines v before r.buffer r.answer × (u ≡ v)

-- an open bench takes a sheet exactly when the bytes are one: a record CP, records TK that obey the task rules, a record EN
abbrev pub TakesSheets : (sheet : List ℕ) → Result ℕ LoadFault → Type 0
TakesSheets sheet (Ok cpus) = (es : List Entry) × SheetOf cpus es sheet
TakesSheets sheet (Err f) = (cpus : ℕ) (es : List Entry) → ¬ SheetOf cpus es sheet

-- every open bench that loads the sheet answers these CPUs and has these tasks then
abbrev pub LoadsBack : (P : Type 0) → (sheet : List ℕ) → ℕ → List (Option Task) → Type 0
LoadsBack P sheet cpus tasks =
    (v u : View P) (r : Result ℕ LoadFault) → v.mode ≡ Open → Loads v sheet r u
    → (r ≡ Ok cpus) × (entries u.tasks ≡ entries tasks)

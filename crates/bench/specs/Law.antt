-- The law of a bench: whatever was done to it since it was new, its answers are those that the book of its log calls for.
use Rattle.std.specs.Prelude.{◌≡◌, ℕ, ◌+◌, Bool, true, false, List, Ok, Err, Option, Result}
use Rattle.schedule.specs.Plan.{Plan}
use Rattle.task.specs.declared.entry.Entry.{Entry}
use Rattle.task.specs.declared.refusal.Refusal.{Refusal}
use Rattle.task.specs.Rules.{Answers}
use Rattle.sheet.specs.declared.fault.LoadFault.{LoadFault}
use Rattle.sheet.specs.Decoding.{Decodes}
use Rattle.sheet.specs.Encoding.{sheet_of}
use Rattle.policy.specs.Plans.{plan_of}
use Rattle.bench.specs.declared.verdict.Verdict.{Verdict}
use Rattle.bench.specs.Book.{Book, foreseen, Kept}
use Rattle.bench.specs.Calls.{Call, entering, withdrawing, loading, saving, starting, running_for, halting, asking_verdict, asking_set, asking_line, Answer, Log, no_calls, and_then}
use Rattle.bench.specs.Judged.{OnlyVerdict, SetShown}
use Rattle.bench.specs.Lines.{verdict_line, Writes, WritesLine}
use Rattle.bench.specs.Refusing.{placed}
use Rattle.bench.specs.Steps.{View, New, IsLoadFault}
use Rattle.bench.specs.EachCall.{Step}

-- the answer of a load: the CPUs that the sheet tells, or the fault
abbrev pub LoadAnswer : (started : Bool) → (sheet : List ℕ) → Result ℕ LoadFault → Type 0
LoadAnswer started sheet (Ok cpus) = (started ≡ false) × ((places : List (Option Entry)) × Decodes sheet (Ok (cpus, places)))
LoadAnswer started sheet (Err f) = IsLoadFault started sheet f

module _ {K : Type 0} (keyed : Entry → ℕ → K) (le : K → K → Bool) where
  -- what the book's table is under the policy
  abbrev pub plan_in : Book → Plan
  plan_in b = plan_of keyed le (placed b.table)

  -- the verdict of n slots since the start ..
  abbrev pub VerdictAnswer : Book → ℕ → Result Verdict Refusal → Type 0
  VerdictAnswer b n (Ok v) = OnlyVerdict (plan_in b) b.cpus n v
  VerdictAnswer b n (Err e) = Unit {0}

  -- .. and the running set with its count; a refusal tells neither
  abbrev pub SetAnswer : Book → Result (ℕ × ℕ) Refusal → Type 0
  SetAnswer b (Ok q) = SetShown (plan_in b) b.cpus b.slots q.0 q.1
  SetAnswer b (Err e) = Unit {0}

  -- The answer that a book calls for: it turns down the same calls, with the same refusals, and what is told of the verdict
  -- is told of the endless schedule of the book's table, its CPUs and the sum of its runs.
  abbrev pub Right : Book → (call : Call) → Answer call → Type 0
  Right b (entering e) r = Answers (foreseen b (entering e)) r
  Right b (withdrawing i) r = Answers (foreseen b (withdrawing i)) r
  Right b (loading sheet) r = LoadAnswer b.started sheet r
  Right b (saving cpus before) r = Writes (foreseen b (saving cpus before)) (sheet_of cpus b.table) before r.buffer r.answer
  Right b (starting m) r = Answers (foreseen b (starting m)) r
  Right b (running_for n) r = Answers (foreseen b (running_for n)) r × VerdictAnswer b (b.slots + n) r
  Right b halting r = Answers (foreseen b halting) r
  Right b asking_verdict r = Answers (foreseen b asking_verdict) r × VerdictAnswer b b.slots r
  Right b asking_set r = Answers (foreseen b asking_set) r × SetAnswer b r
  Right b (asking_line before) r =
      (v : Verdict) × (b.started ≡ true → OnlyVerdict (plan_in b) b.cpus b.slots v)
      × WritesLine (foreseen b (asking_line before)) (verdict_line v) before r.buffer r.answer

  -- every answer in a log is the one that the book of the calls before it calls for
  abbrev pub AllRight : Log → Type 0
  AllRight no_calls = Unit {0}
  AllRight (and_then log call answer) = AllRight log × ((b : Book) → Kept log b → Right b call answer)

  -- the answer to a call after a log: there is one book of the log, and no other, and the answer is the one that it calls for
  pub record Lawful (log : Log) (call : Call) (answer : Answer call) : Type 0 where
    pub past : AllRight log
    pub book : Book
    pub kept : Kept log book
    pub one_book : (c : Book) → Kept log c → c ≡ book
    pub right : Right book call answer

module _ {P K : Type 0} (keyed : P → Entry → ℕ → K) (le : P → K → K → Bool) where
  -- a bench that was new with this policy and of which these calls were made is as v says
  abbrev pub Made : (policy : P) → Log → View P → Type 0
  Made policy no_calls v = New policy v
  Made policy (and_then log call answer) u = (v : View P) × Made policy log v × Step keyed le v call answer u

  -- whatever calls were made of a bench, the next call, whichever it is, answers what the log's book calls for
  abbrev pub Law : Type 0
  Law =
      (policy : P) (log : Log) (v u : View P) (call : Call) (answer : Answer call)
      → Made policy log v → Step keyed le v call answer u → Lawful (keyed policy) (le policy) log call answer

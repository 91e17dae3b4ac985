-- The calls of a bench with what each is handed, what each may answer, and the log of them.
use Rattle.std.specs.Prelude.{ℕ, List, Result}
use Rattle.task.specs.declared.entry.Entry.{Entry}
use Rattle.task.specs.declared.refusal.Refusal.{Refusal}
use Rattle.sheet.specs.declared.fault.LoadFault.{LoadFault}
use Rattle.bench.specs.declared.verdict.Verdict.{Verdict}

-- a call with what it is handed; of a buffer that is what it holds before
pub data Call : Type 0 where
  entering : Entry → Call
  withdrawing : (number : ℕ) → Call
  loading : (sheet : List ℕ) → Call
  saving : (cpus : ℕ) (buffer : List ℕ) → Call
  starting : (cpus : ℕ) → Call
  running_for : (slots : ℕ) → Call
  halting : Call
  asking_verdict : Call
  asking_set : Call
  asking_line : (buffer : List ℕ) → Call

-- the answer of a call that writes: a length or a refusal, and what the buffer holds then
pub record WrittenAnswer : Type 0 where
  pub answer : Result ℕ Refusal
  pub buffer : List ℕ

-- what a call may answer
abbrev pub Answer : Call → Type 0
Answer (entering e) = Result (Unit {0}) Refusal
Answer (withdrawing number) = Result (Unit {0}) Refusal
Answer (loading sheet) = Result ℕ LoadFault
Answer (saving cpus buffer) = WrittenAnswer
Answer (starting cpus) = Result (Unit {0}) Refusal
Answer (running_for slots) = Result Verdict Refusal
Answer halting = Result (Unit {0}) Refusal
Answer asking_verdict = Result Verdict Refusal
Answer asking_set = Result (ℕ × ℕ) Refusal
Answer (asking_line buffer) = WrittenAnswer

-- the calls that were made of a bench since it was new, refused or not, in the order made, each with its answer
pub data Log : Type 0 where
  no_calls : Log
  and_then : Log → (call : Call) → Answer call → Log

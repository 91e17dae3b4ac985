-- What is printed for the bytes of a sheet under one policy.
use Rattle.std.specs.Prelude.{◌≡◌, ℕ, ◌≤◌, Bool, false, List, length, Some, None, Ok, Err, Option, Result}
use Rattle.task.specs.declared.entry.Entry.{Entry}
use Rattle.task.specs.declared.refusal.Refusal.{Refusal}
use Rattle.sheet.specs.declared.fault.LoadFault.{LoadFault}
use Rattle.sheet.specs.Decoding.{Decodes}
use Rattle.policy.specs.Plans.{plan_of}
use Rattle.bench.specs.declared.fault.Fault.{Fault}
use Rattle.bench.specs.declared.fault.Fault.TheVariants.{Load, Start}
use Rattle.bench.specs.declared.verdict.Verdict.{Verdict}
use Rattle.bench.specs.Judged.{OnlyVerdict}
use Rattle.bench.specs.Lines.{verdict_line, fault_line, room_refusal}
use Rattle.bench.specs.Refusing.{placed}
use Rattle.bench.specs.Steps.{start_refusal}
use Rattle.sheet.specs.Buffers.{BeginsWith}
use Rattle.report.specs.declared.line.Line.{Line}
use Rattle.report.specs.declared.line.Line.TheVariants.{OfVerdict, OfFault}

-- the bytes are no sheet, or a bench with the sheet's table does not start on the sheet's CPUs
pub data Faulty (bytes : List ℕ) : Fault → Type 0 where
  no_sheet : {f : LoadFault} → Decodes bytes (Err f) → Faulty bytes (Load f)
  no_start : {cpus : ℕ} {places : List (Option Entry)} {e : Refusal}
      → Decodes bytes (Ok (cpus, places)) → start_refusal false (placed places) cpus ≡ Some e → Faulty bytes (Start e)

module _ {K : Type 0} (keyed : Entry → ℕ → K) (le : K → K → Bool) (bytes : List ℕ) where
  -- The bytes are a sheet whose table may start, and the verdict is the one that the endless schedule of that table and
  -- those CPUs fixes for at most 1,000 runs of 1,000,000 slots, and no other.
  pub record VerdictOfSheet (v : Verdict) : Type 0 where
    pub cpus : ℕ
    pub places : List (Option Entry)
    pub decoded : Decodes bytes (Ok (cpus, places))
    pub starts : start_refusal false (placed places) cpus ≡ None
    pub judged : OnlyVerdict (plan_of keyed le (placed places)) cpus 1000000000 v

  -- What judging does to a buffer, by its answer: the verdict's line or the fault's, from the beginning and nothing else; or
  -- nothing at all, where the buffer is too short.
  abbrev pub Prints : (before after : List ℕ) → Result Line Refusal → Type 0
  Prints before after (Ok (OfVerdict n)) =
      (room_refusal (length before) ≡ None)
      × ((v : Verdict) × VerdictOfSheet v × BeginsWith (verdict_line v) before after n × (n ≤ 48))
  Prints before after (Ok (OfFault n)) =
      (room_refusal (length before) ≡ None)
      × ((f : Fault) × Faulty bytes f × BeginsWith (fault_line f) before after n × (n ≤ 48))
  Prints before after (Err e) = (room_refusal (length before) ≡ Some e) × (after ≡ before)

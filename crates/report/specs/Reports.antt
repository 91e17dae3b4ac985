-- What is printed for the bytes of a sheet: its verdicts under four policies, a line each, or one line for its fault.
use Rattle.std.specs.Prelude.{◌≡◌, ℕ, List, ◌++◌, Option, int_le, nat_le}
use Rattle.std.specs.Io.KnownBytes.{Appends}
use Rattle.policy.specs.Keys.{time_to_deadline, rank_of, heavy_key, heavy_first}
use Rattle.bench.specs.declared.fault.Fault.{Fault}
use Rattle.bench.specs.declared.verdict.Verdict.{Verdict}
use Rattle.bench.specs.Lines.{verdict_line, fault_line}
use Rattle.report.specs.Prints.{VerdictOfSheet, Faulty}

-- the verdicts of a sheet under deadline, rank, heavy-first 1/2 over deadline, and heavy-first 1/2 over rank
pub record VerdictsOfSheet (bytes : List ℕ) (d r hd hr : Verdict) : Type 0 where
  pub deadline : VerdictOfSheet time_to_deadline int_le bytes d
  pub rank : VerdictOfSheet rank_of nat_le bytes r
  pub heavy_deadline : VerdictOfSheet (heavy_key 1 2 time_to_deadline) (heavy_first int_le) bytes hd
  pub heavy_rank : VerdictOfSheet (heavy_key 1 2 rank_of) (heavy_first nat_le) bytes hr

-- the text that is printed
pub data Report (bytes : List ℕ) : List ℕ → Type 0 where
  verdicts : {d r hd hr : Verdict} → VerdictsOfSheet bytes d r hd hr
      → Report bytes (((verdict_line d ++ verdict_line r) ++ verdict_line hd) ++ verdict_line hr)
  fault : {f : Fault} → Faulty bytes f → Report bytes (fault_line f)

-- any bytes have one text at most
abbrev pub OneText : Type 0
OneText = (bytes a b : List ℕ) → Report bytes a → Report bytes b → a ≡ b

-- a writer that held the bytes `before`, where they are known, holds the text that is printed after them, and no more
abbrev pub ReportIsAppended : (bytes : List ℕ) (before after : Option (List ℕ)) → Type 0
ReportIsAppended bytes before after = (text : List ℕ) × Report bytes text × Appends before after text

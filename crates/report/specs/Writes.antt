-- What the private functions that write a report do to their buffer.
use Rattle.std.specs.Prelude.{ℕ, ◌+◌, ◌≤◌, Bool, List, Ok, Err, Result}
use Rattle.task.specs.declared.entry.Entry.{Entry}
use Rattle.sheet.specs.Buffers.{Written, BeginsWith}
use Rattle.bench.specs.declared.fault.Fault.{Fault}
use Rattle.bench.specs.declared.verdict.Verdict.{Verdict}
use Rattle.bench.specs.Lines.{verdict_line, fault_line}
use Rattle.report.specs.declared.report.Faulted.{Faulted}
use Rattle.report.specs.Prints.{VerdictOfSheet, Faulty}
use Rattle.report.specs.Reports.{Report}

-- A line was written at `at`, and the bytes before and after it are as they were: a verdict's line, with where it ends, or
-- a fault's, with its length.
abbrev pub WritesLine : {K : Type 0} → (Entry → ℕ → K) → (K → K → Bool) → (bytes : List ℕ) (at : ℕ) (before after : List ℕ) → Result ℕ Faulted → Type 0
WritesLine keyed le bytes at before after (Ok end) =
    (v : Verdict) × VerdictOfSheet keyed le bytes v × Written at (verdict_line v) before after end × (end ≤ at + 48)
WritesLine keyed le bytes at before after (Err f) =
    (d : Fault) × Faulty bytes d × Written at (fault_line d) before after (at + f.length) × (f.length ≤ 48)

-- the text of a report was written from the beginning, and nothing else; it has this length
abbrev pub WritesText : (bytes before after : List ℕ) → ℕ → Type 0
WritesText bytes before after n = (text : List ℕ) × Report bytes text × BeginsWith text before after n

-- that text, whether it is of verdicts or of a fault
abbrev pub WritesReport : (bytes before after : List ℕ) → Result ℕ Faulted → Type 0
WritesReport bytes before after (Ok end) = WritesText bytes before after end
WritesReport bytes before after (Err f) = WritesText bytes before after f.length

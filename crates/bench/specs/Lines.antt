-- The lines that are printed.
use Rattle.std.specs.Prelude.{◌≡◌, ℕ, ◌≤◌, cond, List, ◌++◌, Some, None, Ok, Err, codes, decimal, Option, Result, nat_lt}
use Rattle.std.specs.List.{flat_map}
use Rattle.task.specs.declared.refusal.Refusal.{Refusal}
use Rattle.task.specs.declared.refusal.Refusal.TheVariants.{BufferTooShort}
use Rattle.task.specs.Refusals.{number_of}
use Rattle.sheet.specs.declared.fault.LoadFault.TheVariants.{Sheet, Refused}
use Rattle.sheet.specs.Faults.{sheet_number_of}
use Rattle.sheet.specs.Buffers.{BeginsWith}
use Rattle.bench.specs.declared.fault.Fault.{Fault}
use Rattle.bench.specs.declared.fault.Fault.TheVariants.{Load, Start}
use Rattle.bench.specs.declared.verdict.Verdict.{Verdict}
use Rattle.bench.specs.declared.verdict.Verdict.TheVariants.{Holds, Missed, Running}

-- a word, a number, a space and a number
abbrev pub number_pair : List ℕ → ℕ → ℕ → List ℕ
number_pair word a b = ((word ++ decimal a) ++ codes " ") ++ decimal b

-- a word, a number, a space, a number, and the end of the line
abbrev pub two_numbers : List ℕ → ℕ → ℕ → List ℕ
two_numbers word a b = number_pair word a b ++ codes "\n"

-- a word, a number, and the end of the line
abbrev pub one_number : List ℕ → ℕ → List ℕ
one_number word a = (word ++ decimal a) ++ codes "\n"

-- a space and a number
abbrev pub spaced : ℕ → List ℕ
spaced n = codes " " ++ decimal n

-- a word, numbers with a space before each, and the end of the line
abbrev pub line_of : List ℕ → List ℕ → List ℕ
line_of word numbers = (word ++ flat_map spaced numbers) ++ codes "\n"

-- how a verdict is printed
abbrev pub verdict_text : Verdict → List ℕ
verdict_text (Holds first second) = number_pair (codes "HOLDS ") first second
verdict_text (Missed task instant) = number_pair (codes "MISSED ") task instant
verdict_text (Running instant) = codes "RUNNING " ++ decimal instant

-- the line of a verdict: its text, and the end of the line
abbrev pub verdict_line : Verdict → List ℕ
verdict_line (Holds first second) = two_numbers (codes "HOLDS ") first second
verdict_line (Missed task instant) = two_numbers (codes "MISSED ") task instant
verdict_line (Running instant) = one_number (codes "RUNNING ") instant

-- the line of a fault: S for the sheet's own, T for a carried refusal, B for a start that is refused
abbrev pub fault_line : Fault → List ℕ
fault_line (Load (Sheet fault place)) = two_numbers (codes "REFUSED S ") (sheet_number_of fault) place
fault_line (Load (Refused refusal place)) = two_numbers (codes "REFUSED T ") (number_of refusal) place
fault_line (Start refusal) = one_number (codes "REFUSED B ") (number_of refusal)

-- a line wants a buffer of 48 bytes: the longest has two instants of 20 digits
abbrev pub room_refusal : ℕ → Option Refusal
room_refusal room = cond (nat_lt room 48) (Some BufferTooShort) None

-- what writing a text does to a buffer, by its answer: the text from the beginning and nothing else, or nothing
abbrev pub Writes : (refusal : Option Refusal) (text before after : List ℕ) → Result ℕ Refusal → Type 0
Writes refusal text before after (Ok n) = (refusal ≡ None) × BeginsWith text before after n
Writes refusal text before after (Err e) = (refusal ≡ Some e) × (after ≡ before)

-- what writing a line does to a buffer, by its answer: the line from the beginning and nothing else, or nothing
abbrev pub WritesLine : (refusal : Option Refusal) (text before after : List ℕ) → Result ℕ Refusal → Type 0
WritesLine refusal text before after (Ok n) = (refusal ≡ None) × BeginsWith text before after n × (n ≤ 48)
WritesLine refusal text before after (Err e) = (refusal ≡ Some e) × (after ≡ before)

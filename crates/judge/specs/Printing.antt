-- What is printed for a line, and for the lines of an input, one after another.
use Rattle.std.specs.Prelude.{◌≡◌, ℕ, ◌<◌, List, [], ◌++◌, length, Some, None, Ok, Err, Option, Result, Vec, codes}
use Rattle.std.specs.Io.BufRead.{first_piece, drop_through}
use Rattle.std.specs.Io.KnownBytes.{Keeps, Appends}
use Rattle.std.specs.declared.alloc.Global.{Global}
use Rattle.std.specs.declared.io.Error.{Error}
use Rattle.report.specs.Reports.{Report}
use Rattle.streams.specs.declared.failure.Failure.{Failure}
use Rattle.streams.specs.declared.failure.Failure.TheVariants.{Input, Output, Memory}
use Rattle.streams.specs.Failures.{on_reading}
use Rattle.judge.specs.Spelling.{sheet_of}

-- what is printed for a line: the report of the sheet that it spells, or that it spells none
pub data Printed (line : List ℕ) : List ℕ → Type 0 where
  judged : {sheet text : List ℕ} → sheet_of line ≡ Some sheet → Report sheet text → Printed line text
  unreadable : sheet_of line ≡ None → Printed line (codes "unreadable\n")

-- What is printed for the lines of an input before those that are left of it. A line ends before a line feed (10), and the
-- last may end with the input.
pub data PrintedBefore (input : List ℕ) : (left text : List ℕ) → Type 0 where
  none : PrintedBefore input input []
  and_then : {left text line : List ℕ} → PrintedBefore input left text
      → 0 < length left → Printed (first_piece 10 left) line → PrintedBefore input (drop_through 10 left) (text ++ line)

-- any input has one text at most
abbrev pub OneOutput : Type 0
OneOutput = (input a b : List ℕ) → PrintedBefore input [] a → PrintedBefore input [] b → a ≡ b

-- What an output has got for a text: the text, unless it fails. Nothing else can fail.
abbrev pub WritesText : (text : List ℕ) (before after : Option (List ℕ)) → Result (Unit {0}) Failure → Type 0
WritesText text before after (Ok _) = Appends before after text
WritesText text before after (Err (Input e)) = ⊥
WritesText text before after (Err (Output e)) = Unit {0}
WritesText text before after (Err Memory) = ⊥

-- What an output has got for a line: what is printed for it; nothing where memory lacked. An output that fails may have
-- got any part of it.
abbrev pub PrintsLine : (line : List ℕ) (before after : Option (List ℕ)) → Result (Unit {0}) Failure → Type 0
PrintsLine line before after (Ok _) = (text : List ℕ) × Printed line text × Appends before after text
PrintsLine line before after (Err (Input e)) = Keeps before after
PrintsLine line before after (Err (Output e)) = Unit {0}
PrintsLine line before after (Err Memory) = Keeps before after

-- what an output has got for a line that may not have been read: nothing then, and the input has failed
abbrev pub PrintsRead : (line : Result (Vec ℕ Global) Error) (before after : Option (List ℕ)) → Result (Unit {0}) Failure → Type 0
PrintsRead (Ok line) before after r = PrintsLine line.items before after r
PrintsRead (Err e) before after r = (r ≡ Err (on_reading e)) × Keeps before after

-- What an output has got for an input: what is printed for all of its lines; where the input failed or memory lacked, what
-- is printed for the lines before.
abbrev pub PrintsLines : (input : List ℕ) (before after : Option (List ℕ)) → Result (Unit {0}) Failure → Type 0
PrintsLines input before after (Ok _) = (text : List ℕ) × PrintedBefore input [] text × Appends before after text
PrintsLines input before after (Err (Input e)) = (left text : List ℕ) × PrintedBefore input left text × Appends before after text
PrintsLines input before after (Err (Output e)) = Unit {0}
PrintsLines input before after (Err Memory) = (left text : List ℕ) × PrintedBefore input left text × Appends before after text

-- nothing is held back, unless the output failed
abbrev pub Flushed : (held : List ℕ) → Result (Unit {0}) Failure → Type 0
Flushed held (Ok _) = held ≡ []
Flushed held (Err (Input e)) = held ≡ []
Flushed held (Err (Output e)) = Unit {0}
Flushed held (Err Memory) = held ≡ []

-- What can fail at a program's edge, how it is told, and with which status the program ends then.
use Rattle.std.specs.Prelude.{ℕ, List, Ok, Err, Result, ⊤, codes}
use Rattle.std.specs.IoError.{error_kind}
use Rattle.std.specs.declared.io.Error.{Error}
use Rattle.std.specs.declared.io.ErrorKind.{ErrorKind}
use Rattle.std.specs.declared.io.ErrorKind.TheVariants.{OutOfMemory}
use Rattle.streams.specs.declared.failure.Failure.{Failure}
use Rattle.streams.specs.declared.failure.Failure.TheVariants.{Input, Output, Memory}

-- an error of this kind is lack of memory, or else the failure that is given
abbrev pub memory_or : ErrorKind → Failure → Failure
memory_or OutOfMemory other = Memory
memory_or _ other = other

-- what an error of a read from standard input is
abbrev pub on_reading : Error → Failure
on_reading e = memory_or (error_kind e) (Input e)

-- a failure that a read can have: any but that of an output
abbrev pub OfReading : Failure → Type 0
OfReading (Output e) = ⊥
OfReading _ = ⊤

-- a failure in plain words
abbrev pub words_of : Failure → List ℕ
words_of (Input e) = codes "standard input cannot be read"
words_of (Output e) = codes "standard output cannot be written"
words_of Memory = codes "there is not enough memory"

-- the exit status: 0, or 1 after a failure
abbrev pub status_of : Result (Unit {0}) Failure → ℕ
status_of (Ok _) = 0
status_of (Err _) = 1

-- Why what a line asks for is not done, told by the fault that it comes from; and lack of memory, which ends a script, apart
-- from the other reasons.

use Rattle.std.specs.Prelude.{Ok, Err, Result}
use Rattle.std.specs.declared.alloc.AllocError.{AllocError}
use Rattle.hex.specs.declared.error.FromHexError.{FromHexError}
use Rattle.hex.specs.declared.error.FromHexError.TheVariants.{InvalidHexCharacter, OddLength, InvalidStringLength, OutOfMemory}
use Rattle.replay.specs.declared.denied.Denied.{Denied}
use Rattle.replay.specs.declared.denied.Denied.TheVariants.{Unreadable, Call, Sheet, Memory}

-- digits that spell no bytes make a line unreadable; lack of memory stays what it is
abbrev pub of_digits : FromHexError → Denied
of_digits (InvalidHexCharacter c index) = Unreadable
of_digits OddLength = Unreadable
of_digits InvalidStringLength = Unreadable
of_digits OutOfMemory = Memory (record {})

-- lack of memory by itself, and what else came of a line as it was
abbrev pub apart_of : {T : Type 0} → Result T Denied → Result (Result T Denied) AllocError
apart_of (Ok t) = Ok (Ok t)
apart_of (Err Unreadable) = Ok (Err Unreadable)
apart_of (Err (Call refusal)) = Ok (Err (Call refusal))
apart_of (Err (Sheet fault)) = Ok (Err (Sheet fault))
apart_of (Err (Memory e)) = Err e

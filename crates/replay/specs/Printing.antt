-- What an output still holds back after a line.
use Rattle.std.specs.Prelude.{◌≡◌, ℕ, List, [], Ok, Err, Result}
use Rattle.streams.specs.declared.failure.Failure.{Failure}
use Rattle.streams.specs.declared.failure.Failure.TheVariants.{Input, Output, Memory}

-- Nothing is held back, unless the output failed. Where memory lacked, what was held back before still is. No input is read.
abbrev pub Flushed : (before after : List ℕ) → Result (Unit {0}) Failure → Type 0
Flushed before after (Ok _) = after ≡ []
Flushed before after (Err (Input e)) = ⊥
Flushed before after (Err (Output e)) = Unit {0}
Flushed before after (Err Memory) = after ≡ before

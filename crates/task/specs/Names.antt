-- The rule for names.
use Rattle.std.specs.Prelude.{ℕ, Bool, true, not, ◌&&◌, List, [], ◌∷◌, ◌==◌, nat_le, slice_index}

-- each byte is from 20 to 7E (hexadecimal)
abbrev pub printable : List ℕ → Bool
printable [] = true
printable (b ∷ bs) = (nat_le 32 b && nat_le b 126) && printable bs

-- a name's bytes are printable, and the first is no space
abbrev pub is_name : List ℕ → Bool
is_name bs = not (slice_index bs 0 == 32) && printable bs

-- Which lines spell a sheet, and which bytes it has.
use Rattle.std.specs.Prelude.{ℕ, ◌+◌, ◌*◌, ◌==◌, ◌&&◌, if◌then◌else◌, Bool, List, [], ◌∷◌, length, slice_index, Some, None, Option}
use Rattle.std.specs.Io.BufRead.{strip_last}
use Rattle.hex.specs.Hex.{hex_digit_value}

-- the byte of two hex digits, the first of the higher value
abbrev pub byte_of : Option ℕ → Option ℕ → Option ℕ
byte_of (Some high) (Some low) = Some (high * 16 + low)
byte_of (Some high) None = None
byte_of None low = None

-- a byte, and bytes after it
abbrev pub joined : Option ℕ → Option (List ℕ) → Option (List ℕ)
joined (Some byte) (Some bytes) = Some (byte ∷ bytes)
joined (Some byte) None = None
joined None bytes = None

-- the bytes of pairs of hex digits, of either case; none where a digit lacks its second, or a character is no digit
abbrev pub bytes_of : List ℕ → Option (List ℕ)
bytes_of [] = Some []
bytes_of (digit ∷ []) = None
bytes_of (high ∷ low ∷ digits) = joined (byte_of (hex_digit_value high) (hex_digit_value low)) (bytes_of digits)

-- a hyphen (45) alone
abbrev pub is_hyphen : List ℕ → Bool
is_hyphen word = (length word == 1) && (slice_index word 0 == 45)

-- the bytes that a word spells: a hyphen alone stands for no bytes
abbrev pub bytes_of_word : List ℕ → Option (List ℕ)
bytes_of_word word = if is_hyphen word then Some [] else bytes_of word

-- the sheet that a line spells, where a carriage return (13) at its end does not count
abbrev pub sheet_of : List ℕ → Option (List ℕ)
sheet_of line = bytes_of_word (strip_last 13 line)

-- The digits that `hex` decodes are those that spell bytes, and the bytes are the same.
use Rattle.std.proofs.Common.{◌≡◌, ℕ, ◌+◌, ◌*◌, ◌%◌, ◌-◌, nat_eq, eqb-true, Bool, true, false, ◌||◌, if◌then◌else◌, List, [], ◌∷◌, length, Option, Some, None, is_some, Result, Ok, Err, refl, sym, ap, ◌∙◌, arith}
use Rattle.std.proofs.lemmas.Bool.{cond-true, cond-false}
use Rattle.std.proofs.lemmas.List.Sums.{list_all-from_AllPass}
use Rattle.std.specs.Char.{is_ascii_hexdigit}
use Rattle.std.specs.Int.{is_in_range}
use Rattle.std.specs.List.{list_all}
use Rattle.std.specs.Io.BufRead.{strip_last}
use Rattle.hex.specs.declared.error.FromHexError.{FromHexError}
use Rattle.hex.specs.Hex.{hex_digit_value, is_hex_digit, digit_or_error, ◌>>=◌, decode_pairs, decode_of}
use Rattle.hex.proofs.HexLemmas.{decode_of-ok}
use Rattle.judge.specs.Spelling.{byte_of, joined, bytes_of, is_hyphen, bytes_of_word, sheet_of}

-- what was decoded, if anything
abbrev pub decoded : Result (List ℕ) FromHexError → Option (List ℕ)
decoded (Ok bytes) = Some bytes
decoded (Err e) = None

-- one pair of digits and what is decoded after it
pair : (high low i : ℕ) (a b : Option ℕ) (rest : Result (List ℕ) FromHexError) (more : Option (List ℕ)) → decoded rest ≡ more
    → decoded ((digit_or_error high i a >>= (λ h. digit_or_error low (i + 1) b >>= (λ l. Ok (h * 16 + l)))) >>= (λ byte. rest >>= (λ bytes. Ok (byte ∷ bytes))))
    ≡ joined (byte_of a b) more
pair high low i None b rest more e = refl
pair high low i (Some h) None rest more e = refl
pair high low i (Some h) (Some l) (Err x) more e = ap (joined (Some (h * 16 + l))) e
pair high low i (Some h) (Some l) (Ok bytes) more e = ap (joined (Some (h * 16 + l))) e

pairs : (i : ℕ) (text : List ℕ) → decoded (decode_pairs i text) ≡ bytes_of text
unfolding decode_pairs
pairs i [] = refl
pairs i (digit ∷ []) = refl
pairs i (high ∷ low ∷ digits) =
    pair high low i (hex_digit_value high) (hex_digit_value low) (decode_pairs (i + 2) digits) (bytes_of digits) (pairs (i + 2) digits)

none_after : (byte : Option ℕ) → joined byte None ≡ None
none_after None = refl
none_after (Some byte) = refl

-- an odd number of digits spells nothing
odd : (text : List ℕ) → length text % 2 ≡ 1 → bytes_of text ≡ None
odd [] e = absurd (omega arith)
odd (digit ∷ []) e = refl
odd (high ∷ low ∷ digits) e =
    let byte = byte_of (hex_digit_value high) (hex_digit_value low) in
    let less : length digits % 2 ≡ 1 = omega arith in
    ap (joined byte) (odd digits less) ∙ none_after byte

-- what decodes spells the same bytes, and what does not spells none
pub spelled : (text : List ℕ) (r : Result (List ℕ) FromHexError) → decode_of text ≡ r → bytes_of text ≡ decoded r
spelled text r e = by_length (nat_eq (length text % 2) 1) refl
  where
    by_length : (b : Bool) → nat_eq (length text % 2) 1 ≡ b → bytes_of text ≡ decoded r
    by_length true t = odd text (eqb-true _ _ t) ∙ ap decoded (sym (cond-true _ _ _ t) ∙ e)
    by_length false t = sym (pairs 0 text) ∙ ap decoded (sym (cond-false _ _ _ t) ∙ e)

-- where one of three tests passes, a value is found
one_of : (upper lower decimal : Bool) (u l d : ℕ) → ((decimal || upper) || lower) ≡ is_some (if upper then Some u else if lower then Some l else if decimal then Some d else None)
one_of true true true u l d = refl
one_of true true false u l d = refl
one_of true false true u l d = refl
one_of true false false u l d = refl
one_of false true true u l d = refl
one_of false true false u l d = refl
one_of false false true u l d = refl
one_of false false false u l d = refl

-- the digits of std are those of `hex`
pub same_digits : (c : ℕ) → is_ascii_hexdigit c ≡ is_hex_digit c
same_digits c = one_of (is_in_range 65 70 c) (is_in_range 97 102 c) (is_in_range 48 57 c) (c - 55) (c - 87) (c - 48)

-- a word with another character spells nothing
pub no_digits : (text : List ℕ) → list_all is_hex_digit text ≡ false → bytes_of text ≡ None
no_digits text other = by_result (decode_of text) refl
  where
    by_result : (r : Result (List ℕ) FromHexError) → decode_of text ≡ r → bytes_of text ≡ None
    by_result (Ok bytes) e = cc (sym other ∙ list_all-from_AllPass is_hex_digit text (decode_of-ok text bytes e).1)
    by_result (Err x) e = spelled text (Err x) e

-- a word that is no hyphen is read by its digits
pub by_digits : (line word : List ℕ) → word ≡ strip_last 13 line → is_hyphen word ≡ false → sheet_of line ≡ bytes_of word
by_digits line word e other = ap bytes_of_word (sym e) ∙ cond-false _ _ _ other

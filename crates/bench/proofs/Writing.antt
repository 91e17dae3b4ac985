-- The lines that are printed, and how long they are.
use Rattle.std.proofs.Common.{◌≡◌, ℕ, ◌+◌, ◌^◌, ◌<◌, ◌≤◌, List, [], ◌∷◌, ◌++◌, length, codes, decimal, ap, append-nil, arith, length-append}
use Rattle.std.proofs.lemmas.Fmt.{length-decimal-le}
use Rattle.bench.specs.Lines.{spaced, line_of}

-- how many digits there are
few_digits : (n : ℕ) → n < 1000 → length (decimal n) ≤ 3
few_digits n h = length-decimal-le 3 n (omega arith) (omega arith) (omega arith)

digits : (n : ℕ) → n < 2 ^ 64 → length (decimal n) ≤ 20
digits n h = length-decimal-le 20 n (omega arith) (omega arith) h

-- how long a line of two numbers is, and of one
length_two : (word : List ℕ) (a b : ℕ) → length (line_of word (a ∷ b ∷ [])) ≡ length word + length (decimal a) + length (decimal b) + 3
length_two word a b =
    omega (arith, length-append (word ++ (spaced a ++ (spaced b ++ []))) (codes "\n"), length-append word (spaced a ++ (spaced b ++ [])), length-append (decimal a) (spaced b ++ []), ap length (append-nil (decimal b)))

length_one : (word : List ℕ) (a : ℕ) → length (line_of word (a ∷ [])) ≡ length word + length (decimal a) + 2
length_one word a =
    omega (arith, length-append (word ++ (spaced a ++ [])) (codes "\n"), length-append word (spaced a ++ []), ap length (append-nil (decimal a)))

-- a line has at most 48 bytes: one of two instants after a short word, ..
pub short_two : (word : List ℕ) (a b : ℕ) → length word ≤ 5 → a < 2 ^ 64 → b < 2 ^ 64 → length (line_of word (a ∷ b ∷ [])) ≤ 48
short_two word a b h p q = omega (arith, length_two word a b, digits a p, digits b q)

-- .. one of a small number and another, ..
pub short_few : (word : List ℕ) (a b : ℕ) → length word ≤ 9 → a < 1000 → b < 2 ^ 64 → length (line_of word (a ∷ b ∷ [])) ≤ 48
short_few word a b h p q = omega (arith, length_two word a b, few_digits a p, digits b q)

-- .. and one of one number
pub short_one : (word : List ℕ) (a : ℕ) → length word ≤ 9 → a < 2 ^ 64 → length (line_of word (a ∷ [])) ≤ 48
short_one word a h p = omega (arith, length_one word a, digits a p)

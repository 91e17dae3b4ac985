-- The bits of a word that stands for a set, and how the word grows by a number.
use Rattle.std.proofs.Common.{◌≡◌, ℕ, zero, suc, ◌+◌, ◌-◌, ◌*◌, ◌/◌, ◌%◌, ◌^◌, ◌<◌, ◌≤◌, Bool, true, false, cond, not, ◌&&◌, eqb, min, bit_and, w32, sym, refl, ap, ◌∙◌, ap₂, ⊎_elim, pow-suc, add-one, arith}
use lib.Count.{ones, ones_in, ones_cat}
use Rattle.schedule.specs.Counting.{sum_below, count_below}
use lib.Bits.{bit_or}
use Rattle.std.specs.Int.{bit_at, bit_not}
use Rattle.std.proofs.lemmas.Nat.{mul-le, or_shifted, or_comm, shl_whole}
use Rattle.std.proofs.lemmas.Nat.Bits.{bit_at-zero, bit_at_lowest, bit_at_cat_low, bit_at_cat_high, same_from_bits_below, bit_at_and, bit_at_not}
use Rattle.std.proofs.lemmas.Bool.{cases_lt}
use Rattle.policy.specs.Members.{has}
use Rattle.policy.specs.Sets.{bit, word_of}

bit_below : (b : Bool) → bit b < 2
bit_below true = omega arith
bit_below false = omega arith

bit_mod : (b : Bool) → bit b % 2 ≡ bit b
bit_mod true = refl
bit_mod false = refl

-- what is one bit, 0 or 1
bit_as : (n : ℕ) → n < 2 → n ≡ bit (eqb n 1)
bit_as zero h = refl
bit_as (suc zero) h = refl
bit_as (suc (suc n)) h = absurd (omega arith)

bit_without : (a b n : ℕ) → a < 2 → b < 2 → n ≡ min a (1 - b) → eqb n 1 ≡ (eqb a 1 && not (eqb b 1))
bit_without zero b n h l e = let z : n ≡ 0 = omega arith in rw z refl
bit_without (suc zero) zero n h l e = let z : n ≡ 1 = omega arith in rw z refl
bit_without (suc zero) (suc zero) n h l e = let z : n ≡ 0 = omega arith in rw z refl
bit_without (suc zero) (suc (suc b)) n h l e = absurd (omega arith)
bit_without (suc (suc a)) b n h l e = absurd (omega arith)

bit_both : (a b n : ℕ) → a < 2 → b < 2 → n ≡ min a b → eqb n 1 ≡ (eqb a 1 && eqb b 1)
bit_both zero b n h l e = let z : n ≡ 0 = omega arith in rw z refl
bit_both (suc zero) zero n h l e = let z : n ≡ 0 = omega arith in rw z refl
bit_both (suc zero) (suc zero) n h l e = let z : n ≡ 1 = omega arith in rw z refl
bit_both (suc zero) (suc (suc b)) n h l e = absurd (omega arith)
bit_both (suc (suc a)) b n h l e = absurd (omega arith)

-- the empty set has no member
pub none_has : (i : ℕ) → has 0 i ≡ false
none_has i = ap (λ b. eqb b 1) (bit_at-zero i)

module _ (f : ℕ → Bool) where
  pub word_none : word_of f 0 ≡ 0
  unfolding word_of
  word_none = refl

  pub word_more : (n : ℕ) → word_of f (n + 1) ≡ bit (f n) * 2 ^ n + word_of f n
  unfolding word_of
  word_more n = rw add-one refl

  pub word_below : (n : ℕ) → word_of f n < 2 ^ n
  unfolding word_of
  word_below zero = omega arith
  word_below (suc n) =
      let b = mul-le (bit (f n)) (2 ^ n) 1 (2 ^ n) (omega (arith, bit_below (f n))) (omega arith) in
      omega (arith, word_below n, b, pow-suc 2 n)

  pub word_bit : (n i : ℕ) → i < n → (word_of f n / 2 ^ i) % 2 ≡ bit (f i)
  unfolding word_of
  word_bit zero i h = absurd (omega arith)
  word_bit (suc n) i h =
      ⊎_elim
      (λ (lt : i < n). bit_at_cat_low (bit (f n)) n (word_of f n) i lt ∙ word_bit n i lt)
      (λ (le : n ≤ i). let at : i ≡ n = omega arith in let none : i - n ≡ 0 = omega arith in bit_at_cat_high (bit (f n)) n (word_of f n) i (word_below n) le ∙ rw (none, at) (bit_at_lowest (bit (f n)) ∙ bit_mod (f n)))
      (cases_lt i n)

  bit_test : (b : Bool) → eqb (bit b) 1 ≡ b
  bit_test true = refl
  bit_test false = refl

  -- who is in the set of those that pass
  pub word_has : (set i : ℕ) → set ≡ word_of f 32 → i < 32 → has set i ≡ f i
  word_has set i e h = ap (λ w. eqb ((w / 2 ^ i) % 2) 1) e ∙ (ap (λ n. eqb n 1) (word_bit 32 i h) ∙ bit_test (f i))

  -- and the set whose members are those that pass is no other
  pub word_is : (set : ℕ) → set < 2 ^ 32 → ((i : ℕ) → i < 32 → has set i ≡ f i) → set ≡ word_of f 32
  word_is set low same = same_from_bits_below 32 set (word_of f 32) low (word_below 32) (λ i h. bit_as ((set / 2 ^ i) % 2) (omega arith) ∙ (ap bit (same i h) ∙ sym (word_bit 32 i h)))

  bit_ones : (b : Bool) → ones (bit b) ≡ cond b 1 0
  unfolding ones ones_in
  bit_ones true = refl
  bit_ones false = refl

  pub word_ones : (n : ℕ) → ones (word_of f n) ≡ count_below n f
  unfolding word_of sum_below
  word_ones zero = bit_ones false
  word_ones (suc n) = ones_cat n (bit (f n)) (word_of f n) (word_below n) ∙ ap (λ z. z + ones (word_of f n)) (bit_ones (f n)) ∙ ap (λ z. cond (f n) 1 0 + z) (word_ones n)

  -- what a loop does with the word at n
  pub word_set : (n m : ℕ) → n < 32 → m ≡ word_of f n → f n ≡ true → bit_or m ((1 * 2 ^ n) % 2 ^ 32) ≡ word_of f (n + 1)
  word_set n m h e t =
      ap (bit_or m) (shl_whole 1 1 n 32 (omega arith) (omega arith))
      ∙ rw e (or_comm (word_of f n) (1 * 2 ^ n) ∙ or_shifted 1 n (word_of f n) (word_below n))
      ∙ sym (word_more n ∙ ap (λ b. bit b * 2 ^ n + word_of f n) t)

  pub word_keep : (n m : ℕ) → m ≡ word_of f n → f n ≡ false → m ≡ word_of f (n + 1)
  word_keep n m e t = omega (arith, word_more n, ap (λ b. bit b * 2 ^ n) t)

  -- numbers that do not pass leave the word as it is
  word_past : (d n m : ℕ) → m ≡ word_of f n → ((k : ℕ) → n ≤ k → k < n + d → f k ≡ false) → m ≡ word_of f (n + d)
  word_past zero n m e off = let at : n + 0 ≡ n = omega arith in rw at e
  word_past (suc d) n m e off =
      let at : n + suc d ≡ (n + d) + 1 = omega arith in
      rw at (word_keep (n + d) m (word_past d n m e (λ k l h. off k l (omega arith))) (off (n + d) (omega arith) (omega arith)))

  pub word_on : (n j m : ℕ) → n ≤ j → m ≡ word_of f n → ((k : ℕ) → n ≤ k → k < j → f k ≡ false) → m ≡ word_of f j
  word_on n j m h e off =
      let at : j ≡ n + (j - n) = omega arith in
      rw at (word_past (j - n) n m e (λ k l u. off k l (omega arith)))

-- who is in a set without those of another
pub without_has : (set out i : ℕ) → out < 2 ^ 32 → i < 32 → has (bit_and set (bit_not w32 out)) i ≡ (has set i && not (has out i))
without_has set out i low h =
    bit_without ((set / 2 ^ i) % 2) ((out / 2 ^ i) % 2) (bit_at (bit_and set (bit_not w32 out)) i) (omega arith) (omega arith) (bit_at_and set (bit_not w32 out) i ∙ ap (min (bit_at set i)) (bit_at_not w32 out i low h))

-- who is in both of two sets
pub both_has : (a b i : ℕ) → has (bit_and a b) i ≡ (has a i && has b i)
both_has a b i = bit_both ((a / 2 ^ i) % 2) ((b / 2 ^ i) % 2) (bit_at (bit_and a b) i) (omega arith) (omega arith) (bit_at_and a b i)

pub word_same : (f g : ℕ → Bool) (n : ℕ) → ((i : ℕ) → i < n → f i ≡ g i) → word_of f n ≡ word_of g n
unfolding word_of
word_same f g zero h = refl
word_same f g (suc n) h = ap₂ (λ b r. bit b * 2 ^ n + r) (h n (omega arith)) (word_same f g n (λ i l. h i (omega arith)))

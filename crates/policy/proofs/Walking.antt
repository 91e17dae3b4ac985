-- The lowest bit of a word, from a number on.
use Rattle.std.proofs.Common.{◌≡◌, ℕ, ◌+◌, ◌-◌, ◌/◌, ◌%◌, ◌^◌, ◌<◌, ◌≤◌, sym, ap, ◌∙◌, ⊎_elim, w32, arith}
use native.Mathlib.Nat.{zero-div}
use Rattle.std.specs.Int.{trailing_zeros}
use Rattle.std.proofs.lemmas.Nat.{shr-shr}
use Rattle.std.proofs.lemmas.Nat.Bits.{bit_at-trailing_zeros, bit_at_above}
use Rattle.std.proofs.lemmas.Bool.{cases_lt, eq-eqb, ne_eqb}
use Rattle.policy.specs.Members.{NextIn}

module _ (set low : ℕ) where
  from_low : (k : ℕ) → low ≤ k → (set / 2 ^ low) / 2 ^ (k - low) ≡ set / 2 ^ k
  from_low k h = let e : low + (k - low) ≡ k = omega arith in shr-shr set low (k - low) ∙ ap (λ n. set / 2 ^ n) e

  pub none_on : set / 2 ^ low ≡ 0 → low ≤ 32 → NextIn set low 32
  none_on z h =
      record {
        within = omega arith;
        onward = λ l. absurd (omega arith);
        skipped = λ k l m. let q : set / 2 ^ k ≡ 0 = sym (from_low k l) ∙ (ap (λ n. n / 2 ^ (k - low)) z ∙ zero-div (2 ^ (k - low))) in ne_eqb ((set / 2 ^ k) % 2) 1 (λ e. omega arith);
        member = λ l. absurd (omega arith);
      }

  module _ (s : set < 2 ^ 32) (f : set / 2 ^ low < 2 ^ 32) (p : 0 < set / 2 ^ low) where
    abbrev next : ℕ
    next = low + trailing_zeros w32 (set / 2 ^ low)

    bit_on : (set / 2 ^ next) % 2 ≡ 1
    bit_on = ap (λ n. n % 2) (sym (shr-shr set low (trailing_zeros w32 (set / 2 ^ low)))) ∙ (bit_at-trailing_zeros w32 (set / 2 ^ low) p f).1

    pub next_within : next < 32
    next_within =
        ⊎_elim
        (λ (l : next < 32). l)
        (λ (l : 32 ≤ next). absurd (omega (arith, bit_on, bit_at_above set 32 next s l)))
        (cases_lt next 32)

    pub next_on : NextIn set low next
    next_on =
        record {
          within = omega (arith, next_within);
          onward = λ h. omega arith;
          skipped = λ k h m. ne_eqb ((set / 2 ^ k) % 2) 1 (λ e. omega (arith, ap (λ n. n % 2) (from_low k h), (bit_at-trailing_zeros w32 (set / 2 ^ low) p f).2 (k - low) (omega arith)));
          member = λ h. eq-eqb ((set / 2 ^ next) % 2) 1 bit_on;
        }

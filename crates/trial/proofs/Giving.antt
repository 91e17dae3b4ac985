-- A list whose values are given anew one after another.
use Rattle.std.proofs.Common.{◌≡◌, ℕ, ◌+◌, ◌<◌, ◌≤◌, ◌≢◌, List, length, set, get_or, sym, subst, ⊎_elim, arith, length-set, get_or-set_other, get_or-set_same, below_more}
use Rattle.std.proofs.lemmas.Bool.{cases_lt}

-- The values below i are each as P has it, and the others are as they were.
abbrev pub Given : (P : ℕ → ℕ → Type 0) → (was now : List ℕ) → ℕ → Type 0
Given P was now i =
    (length now ≡ 32)
    × ((k : ℕ) → k < i → P k (get_or now k 0))
    × ((k : ℕ) → i ≤ k → get_or now k 0 ≡ get_or was k 0)

-- one value more
pub given_more : (P : ℕ → ℕ → Type 0) (was now : List ℕ) (i v : ℕ) → i < 32 → Given P was now i → P i v → Given P was (set now i v) (i + 1)
given_more P was now i v h g p =
    let lt : i < length now = omega (arith, g.0) in
    let Q : ℕ → Type 0 = λ x. P i x in (
      simp length-set g.0,
      below_more _ _
          (λ k l. let ne : k ≢ i = omega arith in rw get_or-set_other (g.1 k l))
          (subst Q (sym (get_or-set_same now i v 0 lt)) p),
      λ k l. let ne : k ≢ i = omega arith in rw get_or-set_other (g.2 k (omega arith)),
    )

-- values that stay as they were
pub given_on : (P : ℕ → ℕ → Type 0) (was now : List ℕ) (i j : ℕ) → i ≤ j → Given P was now i → ((k : ℕ) → i ≤ k → k < j → P k (get_or was k 0)) → Given P was now j
given_on P was now i j h g p = (
  g.0,
  λ k l. ⊎_elim
      (λ (m : k < i). g.1 k m)
      (λ (m : i ≤ k). let Q : ℕ → Type 0 = λ x. P k x in subst Q (sym (g.2 k m)) (p k m l))
      (cases_lt k i),
  λ k l. g.2 k (omega arith),
)

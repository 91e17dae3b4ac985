-- A loop along the members of a set that finds something of each.
use Rattle.std.proofs.Common.{◌≡◌, ℕ, ◌<◌, ◌≤◌, true, List, subst, ⊎_elim, arith}
use Rattle.std.proofs.lemmas.Bool.{both_ways, cases_lt}
use Rattle.policy.specs.Members.{has, NextIn}
use Rattle.policy.proofs.Rising.{first, Turn}

-- P is so of the members below n
abbrev pub EachTo : (set : ℕ) → (ℕ → Type 0) → ℕ → Type 0
EachTo set P n = (k : ℕ) → k < n → has set k ≡ true → P k

module _ (set : ℕ) (P : ℕ → Type 0) where
  pub each_start : (n : ℕ) → NextIn set 0 n → EachTo set P n
  each_start n next k l on = absurd (both_ways (has set k) (next.skipped k (omega arith) l) on)

  pub each_more : (i : ℕ) (more : List ℕ) → Turn set i more → EachTo set P i → P i → EachTo set P (first more)
  each_more i more t h p k l on =
      ⊎_elim
      (λ (m : k < i). h k m on)
      (λ (m : i ≤ k). ⊎_elim
      (λ (o : i < k). absurd (both_ways (has set k) (t.next.skipped k (omega arith) l) on))
      (λ (o : k ≤ i). let same : i ≡ k = omega arith in subst P same p)
      (cases_lt i k))
      (cases_lt k i)

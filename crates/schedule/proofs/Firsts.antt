-- The first number that has a property, and properties of all numbers below n.
use Rattle.std.proofs.Common.{◌≡◌, ℕ, zero, suc, ◌<◌, ◌≤◌, ◌⊎◌, inl, inr, ⊎_elim, arith}
use Rattle.std.proofs.lemmas.Bool.{cases_lt}

pub both : {A B : Type 0} → Dec A → Dec B → Dec (A × B)
both (yes a) (yes b) = yes (a, b)
both (yes a) (no n) = no (λ q. n q.1)
both (no n) d = no (λ q. n q.0)

-- the first number below n that has the property, or none
abbrev pub First : (ℕ → Type 0) → ℕ → Type 0
First P n = ((k : ℕ) × (k < n) × P k × ((j : ℕ) → j < k → ¬ P j)) ⊎ ((k : ℕ) → k < n → ¬ P k)

pub first : (P : ℕ → Type 0) → ((k : ℕ) → Dec (P k)) → (n : ℕ) → First P n
first P d zero = inr (λ k l q. omega arith)
first P d (suc n) = go (first P d n) (d n)
  where
    go : First P n → Dec (P n) → First P (suc n)
    go (inl f) q = inl (f.0, omega (arith, f.1), f.2, f.3)
    go (inr none) (yes q) = inl (n, omega arith, q, none)
    go (inr none) (no q) = inr (λ k l r. ⊎_elim (λ (b : k < n). none k b r) (λ (g : n ≤ k). let e : k ≡ n = omega arith in q (rw e at r)) (cases_lt k n))

pub all_below : (P : ℕ → Type 0) → ((k : ℕ) → Dec (P k)) → (n : ℕ) → Dec ((k : ℕ) → k < n → P k)
all_below P d zero = yes (λ k l. absurd (omega arith))
all_below P d (suc n) = go (all_below P d n) (d n)
  where
    go : Dec ((k : ℕ) → k < n → P k) → Dec (P n) → Dec ((k : ℕ) → k < suc n → P k)
    go (yes a) (yes q) = yes (λ k l. ⊎_elim (λ (b : k < n). a k b) (λ (g : n ≤ k). let e : k ≡ n = omega arith in rw e q) (cases_lt k n))
    go (yes a) (no q) = no (λ f. q (f n (omega arith)))
    go (no a) q = no (λ f. a (λ k l. f k (omega arith)))

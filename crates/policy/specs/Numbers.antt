-- The order of numbers, with and without a sign, is total and transitive.
use Rattle.std.specs.Prelude.{◌≡◌, ℕ, true, ◌⊎◌, ℤ, pos, negsuc, refl, nat_le, int_le}
use Rattle.std.proofs.Common.{inl, inr, ⊎_elim}
use Rattle.std.proofs.Math.Nat.{le_of_lt, le_trans}
use Rattle.std.proofs.lemmas.Bool.{cases_lt, false≢true, le-leb, leb-true}

pub nat_total : (a b : ℕ) → (nat_le a b ≡ true) ⊎ (nat_le b a ≡ true)
nat_total a b = ⊎_elim (λ l. inl (le-leb a b (le_of_lt l))) (λ l. inr (le-leb b a l)) (cases_lt a b)

pub nat_transitive : (a b c : ℕ) → nat_le a b ≡ true → nat_le b c ≡ true → nat_le a c ≡ true
nat_transitive a b c p q = le-leb a c (le_trans (leb-true a b p) (leb-true b c q))

pub int_total : (a b : ℤ) → (int_le a b ≡ true) ⊎ (int_le b a ≡ true)
int_total (pos a) (pos b) = nat_total a b
int_total (pos a) (negsuc b) = inr refl
int_total (negsuc a) (pos b) = inl refl
int_total (negsuc a) (negsuc b) = nat_total b a

pub int_transitive : (a b c : ℤ) → int_le a b ≡ true → int_le b c ≡ true → int_le a c ≡ true
int_transitive (pos a) (pos b) (pos c) p q = nat_transitive a b c p q
int_transitive (pos a) (pos b) (negsuc c) p q = absurd (false≢true q)
int_transitive (pos a) (negsuc b) c p q = absurd (false≢true p)
int_transitive (negsuc a) b (pos c) p q = refl
int_transitive (negsuc a) (pos b) (negsuc c) p q = absurd (false≢true q)
int_transitive (negsuc a) (negsuc b) (negsuc c) p q = nat_transitive c b a q p

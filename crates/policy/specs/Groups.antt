-- An order of keys under a flag is total and transitive where the order below is.
use Rattle.std.specs.Prelude.{◌≡◌, Bool, true, false, ◌⊎◌, refl}
use Rattle.std.proofs.Common.{inl, inr}
use Rattle.std.proofs.lemmas.Bool.{false≢true}
use Rattle.policy.specs.Order.{grouped}

module _ {K : Type 0} (le : K → K → Bool) where
  pub grouped_total : ((a b : K) → (le a b ≡ true) ⊎ (le b a ≡ true)) → (f : Bool) (a : K) (g : Bool) (b : K) → (grouped le f a g b ≡ true) ⊎ (grouped le g b f a ≡ true)
  grouped_total t true a true b = t a b
  grouped_total t true a false b = inl refl
  grouped_total t false a true b = inr refl
  grouped_total t false a false b = t a b

  pub grouped_transitive : ((a b c : K) → le a b ≡ true → le b c ≡ true → le a c ≡ true) → (f : Bool) (a : K) (g : Bool) (b : K) (h : Bool) (c : K) → grouped le f a g b ≡ true → grouped le g b h c ≡ true → grouped le f a h c ≡ true
  grouped_transitive t true a true b true c p q = t a b c p q
  grouped_transitive t true a g b false c p q = refl
  grouped_transitive t true a false b true c p q = absurd (false≢true q)
  grouped_transitive t false a true b h c p q = absurd (false≢true p)
  grouped_transitive t false a false b true c p q = q
  grouped_transitive t false a false b false c p q = t a b c p q

-- Under an order of keys that is total and transitive a plan is ranked, so that at most m jobs run.
use Rattle.std.proofs.Common.{◌≡◌, ℕ, min, Bool, true, false, ◌⊎◌, is_some, Some, None, Option, refl, ap, ◌∙◌, arith}
use lib.Count.{ones}
use Rattle.std.proofs.lemmas.Bool.Decides.{nat_tests}
use Rattle.schedule.specs.Counting.{count_below}
use Rattle.schedule.specs.Plan.{Ranked}
use Rattle.schedule.specs.Schedule.{active, has_cpu}
use Rattle.schedule.proofs.Ranks.{at_most_m_run}
use Rattle.task.specs.declared.entry.Entry.{Entry}
use Rattle.policy.specs.Order.{stands_before}
use Rattle.policy.specs.Plans.{plan_of, goes_before}
use Rattle.policy.specs.Sets.{word_of}
use Rattle.policy.proofs.Words.{word_ones}

module _ {K : Type 0} (le : K → K → Bool) where
  pub before_itself : (a : K) (i : ℕ) → stands_before le a i a i ≡ false
  before_itself a i = grind (arith, nat_tests)

  pub before_total : ((a b : K) → (le a b ≡ true) ⊎ (le b a ≡ true)) → (a b : K) (i j : ℕ) → (i ≡ j → ⊥) → (stands_before le a i b j ≡ true) ⊎ (stands_before le b j a i ≡ true)
  before_total total a b i j ne = let t = total a b in grind (arith, nat_tests)

  pub before_through : ((a b c : K) → le a b ≡ true → le b c ≡ true → le a c ≡ true) → (a b c : K) (i j k : ℕ) → stands_before le a i b j ≡ true → stands_before le b j c k ≡ true → stands_before le a i c k ≡ true
  before_through trans a b c i j k p q = let x = trans a b c in let y = trans b c a in let z = trans c a b in grind (arith, nat_tests)

module _ {K : Type 0} (keyed : Entry → ℕ → K) (le : K → K → Bool) where
  pub goes_some : (o q : Option Entry) (i a j b : ℕ) → goes_before keyed le o i a q j b ≡ true → is_some o ≡ true
  goes_some None q i a j b e = e
  goes_some (Some d) q i a j b e = refl

  pub goes_itself : (o : Option Entry) (i a : ℕ) → goes_before keyed le o i a o i a ≡ false
  goes_itself None i a = refl
  goes_itself (Some d) i a = before_itself le (keyed d a) i

  goes_total : ((a b : K) → (le a b ≡ true) ⊎ (le b a ≡ true)) → (o q : Option Entry) (i a j b : ℕ) → is_some o ≡ true → is_some q ≡ true → (i ≡ j → ⊥) → (goes_before keyed le o i a q j b ≡ true) ⊎ (goes_before keyed le q j b o i a ≡ true)
  goes_total total None q i a j b x y ne = absurd (cc)
  goes_total total (Some d) None i a j b x y ne = absurd (cc)
  goes_total total (Some d) (Some e) i a j b x y ne = before_total le total (keyed d a) (keyed e b) i j ne

  goes_through : ((a b c : K) → le a b ≡ true → le b c ≡ true → le a c ≡ true) → (o q r : Option Entry) (i a j b k c : ℕ) → goes_before keyed le o i a q j b ≡ true → goes_before keyed le q j b r k c ≡ true → goes_before keyed le o i a r k c ≡ true
  goes_through trans None q r i a j b k c x y = x
  goes_through trans (Some d) None r i a j b k c x y = absurd (cc)
  goes_through trans (Some d) (Some e) None i a j b k c x y = y
  goes_through trans (Some d) (Some e) (Some f) i a j b k c x y = before_through le trans (keyed d a) (keyed e b) (keyed f c) i j k x y

  module _ (total : (a b : K) → (le a b ≡ true) ⊎ (le b a ≡ true)) (trans : (a b c : K) → le a b ≡ true → le b c ≡ true → le a c ≡ true) (at : ℕ → Option Entry) where
    pub plan_ranked : Ranked (plan_of keyed le at)
    plan_ranked =
        record {
          of_tasks = λ i a j b e. goes_some (at i) (at j) i a j b e;
          irreflexive = λ i a. goes_itself (at i) i a;
          total = λ i a j b x y ne. goes_total total (at i) (at j) i a j b x.1 y.1 ne;
          transitive = λ i a j b k c x y. goes_through trans (at i) (at j) (at k) i a j b k c x y;
        }

    -- the word of the jobs that run has a bit for each CPU, or for each active job where those are fewer
    pub as_many_run : (m t : ℕ) (left : ℕ → ℕ) (set : ℕ) → set ≡ word_of (has_cpu (plan_of keyed le at) m t left) 32 → ones set ≡ min m (count_below 32 (active (plan_of keyed le at) left))
    as_many_run m t left set e =
        ap ones e
        ∙ word_ones (has_cpu (plan_of keyed le at) m t left) 32
        ∙ at_most_m_run (plan_of keyed le at) plan_ranked m t left

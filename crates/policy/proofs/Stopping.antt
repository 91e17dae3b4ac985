-- Between the members of a set nothing more is found.
use Rattle.std.proofs.Common.{◌≡◌, ℕ, ◌+◌, ◌-◌, ◌<◌, ◌≤◌, Bool, true, false, cond, List, ◌∷◌, sym, ap, ◌∙◌, arith}
use Rattle.schedule.specs.Counting.{count_below}
use Rattle.schedule.proofs.Sums.{count_none, count_more, count_stops, sum_bounded}
use Rattle.policy.specs.Members.{has, NextIn}
use Rattle.policy.proofs.Rising.{first, Turn, next_past}

-- from a number to the next member of a set, for a test that only members pass
module _ (set low next : ℕ) (n : NextIn set low next) (h : low ≤ 32) (test : ℕ → Bool) (only : (k : ℕ) → has set k ≡ false → test k ≡ false) where
  there : low + (next - low) ≡ next
  there = omega (arith, next_past set low next h n)

  between : (k : ℕ) → low ≤ k → k < low + (next - low) → test k ≡ false
  between k l m = only k (n.skipped k l (omega (arith, there)))

  pub count_next : count_below next test ≡ count_below low test
  count_next = ap (λ k. count_below k test) (sym there) ∙ count_stops test (next - low) low between

-- a loop along the members of a set that counts those that pass, for a test that only members pass
module _ (set : ℕ) (test : ℕ → Bool) (only : (k : ℕ) → has set k ≡ false → test k ≡ false) (rest : List ℕ) where
  pub count_start : NextIn set 0 (first rest) → 0 ≡ count_below (first rest) test
  count_start n = sym (count_next set 0 (first rest) n (omega arith) test only ∙ count_none test)

  module _ (i : ℕ) (more : List ℕ) (e : rest ≡ i ∷ more) (t : Turn set i more) where
    count_here : (n : ℕ) → n ≡ count_below (first rest) test → n + cond (test i) 1 0 ≡ count_below (first more) test
    count_here n c =
        let so_far : n ≡ count_below i test = c ∙ ap (λ r. count_below (first r) test) e in
        let on : count_below (first more) test ≡ count_below (i + 1) test = count_next set (i + 1) (first more) t.next (omega (arith, t.within)) test only in
        omega (arith, count_more i test)

    pub count_hit : (n : ℕ) → n ≡ count_below (first rest) test → true ≡ test i → n + 1 ≡ count_below (first more) test
    count_hit n c h = ap (λ b. n + cond b 1 0) h ∙ count_here n c

    pub count_miss : (n : ℕ) → n ≡ count_below (first rest) test → false ≡ test i → n ≡ count_below (first more) test
    count_miss n c h = let z : n ≡ n + 0 = omega arith in z ∙ (ap (λ b. n + cond b 1 0) h ∙ count_here n c)

-- no more pass than there are numbers
pub count_most : (n : ℕ) (test : ℕ → Bool) → count_below n test ≤ n
count_most n test = let most = sum_bounded n 1 (λ j. cond (test j) 1 0) (λ j l. one_most (test j)) in omega arith
  where
    one_most : (b : Bool) → cond b 1 0 ≤ 1
    one_most true = omega arith
    one_most false = omega arith

-- A loop along a set of jobs that counts those that stand before a job, where some are known to do.
use Rattle.std.proofs.Common.{◌≡◌, ℕ, zero, suc, ◌+◌, ◌-◌, ◌≤◌, Bool, true, false, not, cond, ◌&&◌, ltb, List, [], ◌∷◌, sym, refl, ap, ◌∙◌, arith}
use Rattle.std.proofs.lemmas.Bool.{le-ltb}
use Rattle.schedule.specs.Counting.{sum_below, count_below}
use Rattle.schedule.proofs.Sums.{count_upto}
use Rattle.policy.specs.Members.{has, members_from}
use Rattle.policy.proofs.Rising.{first, Along, Turn, along_from, turn}
use Rattle.policy.proofs.Stopping.{count_start, count_hit, count_miss}

split_one : (a b : Bool) → cond a 1 0 ≡ cond (b && a) 1 0 + cond (a && not b) 1 0
split_one true true = omega arith
split_one true false = omega arith
split_one false true = omega arith
split_one false false = omega arith

-- those that pass are those that pass and are in a set, and those that pass and are not
count_split : (n : ℕ) (test inside : ℕ → Bool) → count_below n test ≡ count_below n (λ j. inside j && test j) + count_below n (λ j. test j && not (inside j))
unfolding sum_below
count_split zero test inside = omega arith
count_split (suc n) test inside = omega (arith, split_one (test n) (inside n), count_split n test inside)

module _ (set : ℕ) (test : ℕ → Bool) where
  abbrev member : ℕ → Bool
  member j = has set j && test j

  idle : (k : ℕ) → has set k ≡ false → member k ≡ false
  idle k off = ap (λ b. b && test k) off

  -- the count so far is that of the members up to the next that pass, and of what passes outside of the set
  abbrev pub Counted : (ahead : ℕ) → List ℕ → Type 0
  Counted ahead rest = Along set rest × (ahead ≡ count_below (first rest) member + count_below 32 (λ j. test j && not (has set j)))

  pub begins : (known : ℕ) → known ≡ count_below 32 (λ j. test j && not (has set j)) → (rest : List ℕ) → rest ≡ members_from set 0 → Counted known rest
  begins known k rest e = let (along, n) = along_from set 0 rest (omega arith) e in (along, omega (arith, k, count_start set member idle rest n))

  module _ (ahead j : ℕ) (rest more : List ℕ) (e : rest ≡ j ∷ more) (h : Counted ahead rest) where
    pub inside : Turn set j more
    inside = turn set rest more j h.0 e

    pub one_before : true ≡ test j → Counted (ahead + 1) more
    one_before up = (inside.along, omega (arith, h.1, count_hit set member idle rest j more e inside (count_below (first rest) member) refl (up ∙ sym (ap (λ b. b && test j) inside.member))))

    pub one_behind : false ≡ test j → Counted ahead more
    one_behind down = (inside.along, omega (arith, h.1, count_miss set member idle rest j more e inside (count_below (first rest) member) refl (down ∙ sym (ap (λ b. b && test j) inside.member))))

    -- a count that has reached the number of CPUs stays there
    pub enough : (m : ℕ) → m ≤ ahead → false ≡ ltb (count_below 32 test) m
    enough m l =
        let so_far : count_below (first rest) member ≡ count_below j member = ap (λ r. count_below (first r) member) e in
        let d : j + (32 - j) ≡ 32 = omega (arith, inside.within) in
        let most : count_below j member ≤ count_below 32 member = rw d at (count_upto member (32 - j) j) in
        sym (le-ltb (count_below 32 test) m (omega (arith, h.1, count_split 32 test (has set))))

  pub all_counted : (ahead m : ℕ) (rest : List ℕ) → rest ≡ [] → Counted ahead rest → ltb ahead m ≡ ltb (count_below 32 test) m
  all_counted ahead m rest e h =
      let all : count_below (first rest) member ≡ count_below 32 member = ap (λ r. count_below (first r) member) e in
      ap (λ n. ltb n m) (omega (arith, h.1, count_split 32 test (has set)))

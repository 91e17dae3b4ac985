-- The schedule slot by slot, as lists that compute: what is left of each job at the instants from 0 on.
use Rattle.std.proofs.Common.{◌≡◌, ℕ, zero, suc, ◌+◌, ◌<◌, ◌≤◌, false, List, [], ◌∷◌, map, get_or, sym, ap, ◌∙◌, ⊎_elim, arith}
use lib.ListN.{get_or-eq_default}
use Rattle.std.specs.List.{range_with_len}
use Rattle.std.proofs.lemmas.List.FromFn.{get_or-map-range_with_len, length-map-range_with_len}
use Rattle.std.proofs.lemmas.Bool.{cases_lt}
use Rattle.schedule.specs.Plan.{Plan, plain}
use Rattle.schedule.specs.Schedule.{opened, slot, left, config}
use Rattle.schedule.proofs.Same.{slot_same, left_first, left_next}
use Rattle.policy.specs.Sets.{left_of}
use Rattle.examples.proofs.Places.{first_of, left_none, config_none, slot_few}

-- rules 1 and 2 at t, in the first n places
abbrev pub open_all : Plan → (m n t : ℕ) → List ℕ → List ℕ
open_all p m n t ls = map (λ i. opened p (plain p m) i t (left_of ls i)) (range_with_len 0 n)

-- rule 3 in the slot from t, in the first n places
abbrev pub run_all : Plan → (m n t : ℕ) → List ℕ → List ℕ
run_all p m n t cs = map (λ i. slot (first_of p n) m t (left_of cs) i) (range_with_len 0 n)

-- what is left at the instants t, .., t + s before rules 1 and 2, where it is `ls` at t
abbrev pub trace : Plan → (m n s t : ℕ) → List ℕ → List (List ℕ)
trace p m n zero t ls = ls ∷ []
trace p m n (suc s) t ls = ls ∷ trace p m n s (suc t) (run_all p m n t (open_all p m n t ls))

-- a list made in the first n places of a function that is 0 past them
listed : (f g : ℕ → ℕ) (n : ℕ) → ((i : ℕ) → i < n → f i ≡ g i) → ((i : ℕ) → n ≤ i → g i ≡ 0) → (i : ℕ) → left_of (map f (range_with_len 0 n)) i ≡ g i
listed f g n same past i =
    ⊎_elim
    (λ (l : i < n). get_or-map-range_with_len f 0 n i i 0 l (omega arith) ∙ same i l)
    (λ (h : n ≤ i). get_or-eq_default (map f (range_with_len 0 n)) 0 (omega (arith, length-map-range_with_len f 0 n)) ∙ sym (past i h))
    (cases_lt i n)

module _ (p : Plan) (m n : ℕ) (fits : n ≤ p.tasks) (none : (i : ℕ) → n ≤ i → p.present i ≡ false) where
  pub opens_so : (t : ℕ) (ls : List ℕ) → ((i : ℕ) → left_of ls i ≡ left p (plain p m) t i) → (i : ℕ) → left_of (open_all p m n t ls) i ≡ config p (plain p m) t i
  opens_so t ls known =
      listed (λ i. opened p (plain p m) i t (left_of ls i)) (config p (plain p m) t) n
      (λ i l. ap (opened p (plain p m) i t) (known i))
      (λ i h. config_none p m i t (none i h))

  runs_so : (t : ℕ) (cs : List ℕ) → ((i : ℕ) → left_of cs i ≡ config p (plain p m) t i) → (i : ℕ) → left_of (run_all p m n t cs) i ≡ left p (plain p m) (suc t) i
  runs_so t cs known =
      listed (λ i. slot (first_of p n) m t (left_of cs) i) (left p (plain p m) (suc t)) n
      (λ i l.
      slot_same (first_of p n) m t (left_of cs) (config p (plain p m) t) (λ j _. known j) i l
      ∙ (sym (slot_few p m n t fits (config p (plain p m) t) (λ j h. config_none p m j t (none j h)) i)
      ∙ sym (left_next p (plain p m) t i)))
      (λ i h. left_none p m i (suc t) (none i h))

  trace_from : (s t : ℕ) (ls : List ℕ) → ((i : ℕ) → left_of ls i ≡ left p (plain p m) t i) → (k : ℕ) → k ≤ s → (i : ℕ) → left_of (get_or (trace p m n s t ls) k []) i ≡ left p (plain p m) (k + t) i
  trace_from zero t ls known zero h i = let e : 0 + t ≡ t = omega arith in rw e (known i)
  trace_from zero t ls known (suc k) h i = absurd (omega arith)
  trace_from (suc s) t ls known zero h i = let e : 0 + t ≡ t = omega arith in rw e (known i)
  trace_from (suc s) t ls known (suc k) h i =
      let e : suc k + t ≡ k + suc t = omega arith in
      rw e (trace_from s (suc t) (run_all p m n t (open_all p m n t ls)) (runs_so t (open_all p m n t ls) (opens_so t ls known)) k (omega arith) i)

  pub trace_known : (s t : ℕ) → t ≤ s → (i : ℕ) → left_of (get_or (trace p m n s 0 []) t []) i ≡ left p (plain p m) t i
  trace_known s t h i =
      let e : t + 0 ≡ t = omega arith in
      trace_from s 0 [] (λ i. sym (left_first p (plain p m) i)) t h i ∙ ap (λ u. left p (plain p m) u i) e

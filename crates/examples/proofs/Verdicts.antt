-- The verdict after s slots by tests that compute, over what is left at the instants up to s.
use Rattle.std.proofs.Common.{◌≡◌, ℕ, suc, ◌-◌, ◌/◌, ◌<◌, ◌≤◌, Bool, true, false, not, ◌&&◌, eqb, ltb, leb, List, [], get_or, sym, ap, ◌∙◌, ⊎_elim, mul-le-mul_left, arith}
use Rattle.std.proofs.lemmas.Bool.{cases_lt, and_parts, and_from, not-true, both_ways, ltb-true, leb-true, eqb-true, lt-ltb, le-leb, eq-eqb}
use Rattle.schedule.specs.Plan.{Plan, plain}
use Rattle.schedule.specs.Hyperperiod.{last_offset, hyperperiod}
use Rattle.schedule.specs.Schedule.{deadline_at, opened, left, config, Misses, boundary, Agree}
use Rattle.schedule.specs.Verdict.{NoMissBy, Verdict, Missed, Holds, Running, Fixes}
use Rattle.schedule.proofs.Verdicts.{boundary_mono}
use Rattle.policy.specs.Sets.{left_of}
use Rattle.examples.proofs.Below.{every_below, at_each, from_each}
use Rattle.examples.proofs.Places.{config_none, misses_none}

-- The tests, where `h` has what is left at each instant before rules 1 and 2: task i's job misses at t ..
abbrev pub miss_test : Plan → List (List ℕ) → (t i : ℕ) → Bool
miss_test p h t i = deadline_at p i t && ltb 0 (left_of (get_or h t []) i)

-- .. no job misses at t ..
abbrev pub calm_test : Plan → ℕ → List (List ℕ) → ℕ → Bool
calm_test p n h t = every_below n (λ i. not (miss_test p h t i))

-- .. with the configuration at t, ..
abbrev pub config_computed : Plan → ℕ → List (List ℕ) → (t i : ℕ) → ℕ
config_computed p m h t i = opened p (plain p m) i t (left_of (get_or h t []) i)

-- .. the configurations at x and y are equal ..
abbrev pub same_left_test : Plan → (m n : ℕ) → List (List ℕ) → (x y : ℕ) → Bool
same_left_test p m n h x y = every_below n (λ i. eqb (config_computed p m h x i) (config_computed p m h y i))

-- .. boundaries k and k + 1 agree
abbrev pub agree_test : Plan → (m n : ℕ) → List (List ℕ) → ℕ → Bool
agree_test p m n h k = same_left_test p m n h (boundary p k) (boundary p (suc k))

-- what is to be tested for each verdict; for "holds", k is the boundary that a is
abbrev pub holds_test : Plan → (m n : ℕ) → List (List ℕ) → (s a b k : ℕ) → Bool
holds_test p m n h s a b k =
    eqb a (boundary p k) && (eqb b (boundary p (suc k)) && (leb b s && (every_below (suc s) (calm_test p n h)
    && (same_left_test p m n h a b && every_below k (λ j. not (agree_test p m n h j))))))

abbrev pub missed_test : Plan → (m n : ℕ) → List (List ℕ) → (s i t : ℕ) → Bool
missed_test p m n h s i t =
    ltb i p.tasks && (leb t s && (miss_test p h t i && (every_below t (calm_test p n h) && every_below i (λ j. not (miss_test p h t j)))))

abbrev pub running_test : Plan → (m n : ℕ) → List (List ℕ) → (s u : ℕ) → Bool
running_test p m n h s u =
    eqb u s && (every_below (suc s) (calm_test p n h) && (ltb 0 (hyperperiod p)
    && every_below s (λ k. not (leb (boundary p (suc k)) s && agree_test p m n h k))))

abbrev pub fixes_test : Plan → (m n : ℕ) → List (List ℕ) → ℕ → Verdict → Bool
fixes_test p m n h s (Missed i t) = missed_test p m n h s i t
fixes_test p m n h s (Holds a b) = holds_test p m n h s a b ((a - last_offset p) / hyperperiod p)
fixes_test p m n h s (Running u) = running_test p m n h s u

-- What the tests tell, where `h` is right up to s.
module _ (p : Plan) (m n s : ℕ) (fits : n ≤ p.tasks) (none : (i : ℕ) → n ≤ i → p.present i ≡ false) (h : List (List ℕ)) (known : (t : ℕ) → t ≤ s → (i : ℕ) → left_of (get_or h t []) i ≡ left p (plain p m) t i) where
  miss_so : (t i : ℕ) → t ≤ s → miss_test p h t i ≡ true → Misses p (plain p m) i t
  miss_so t i l e =
      let (due, more) = and_parts (deadline_at p i t) (ltb 0 (left_of (get_or h t []) i)) e in
      (due, omega (arith, known t l i, ltb-true 0 (left_of (get_or h t []) i) more))

  so_miss : (t i : ℕ) → t ≤ s → Misses p (plain p m) i t → miss_test p h t i ≡ true
  so_miss t i l miss = and_from (deadline_at p i t) (ltb 0 (left_of (get_or h t []) i)) miss.0 (lt-ltb 0 (left_of (get_or h t []) i) (omega (arith, known t l i, miss.1)))

  no_miss : (t i : ℕ) → t ≤ s → not (miss_test p h t i) ≡ true → ¬ Misses p (plain p m) i t
  no_miss t i l e miss = both_ways (miss_test p h t i) (not-true (miss_test p h t i) e) (so_miss t i l miss)

  calm_so : (t : ℕ) → t ≤ s → calm_test p n h t ≡ true → (i : ℕ) → ¬ Misses p (plain p m) i t
  calm_so t l e i =
      ⊎_elim
      (λ (b : i < n). no_miss t i l (at_each n (λ i. not (miss_test p h t i)) e i b))
      (λ (g : n ≤ i). misses_none p m i t (none i g))
      (cases_lt i n)

  all_calm : every_below (suc s) (calm_test p n h) ≡ true → NoMissBy p (plain p m) s
  all_calm e i t _ l = calm_so t l (at_each (suc s) (calm_test p n h) e t (omega arith)) i

  pub config_so : (t i : ℕ) → t ≤ s → config_computed p m h t i ≡ config p (plain p m) t i
  config_so t i l = ap (opened p (plain p m) i t) (known t l i)

  same_left_so : (x y : ℕ) → x ≤ s → y ≤ s → same_left_test p m n h x y ≡ true → (i : ℕ) → config p (plain p m) x i ≡ config p (plain p m) y i
  same_left_so x y lx ly e i =
      ⊎_elim
      (λ (b : i < n).
      sym (config_so x i lx)
      ∙ (eqb-true (config_computed p m h x i) (config_computed p m h y i) (at_each n (λ i. eqb (config_computed p m h x i) (config_computed p m h y i)) e i b)
      ∙ config_so y i ly))
      (λ (g : n ≤ i). config_none p m i x (none i g) ∙ sym (config_none p m i y (none i g)))
      (cases_lt i n)

  so_agree : (k : ℕ) → boundary p (suc k) ≤ s → Agree p (plain p m) k → agree_test p m n h k ≡ true
  so_agree k l agree =
      let earlier : boundary p k ≤ s = omega (arith, boundary_mono p k (suc k) (omega arith)) in
      from_each n (λ i. eqb (config_computed p m h (boundary p k) i) (config_computed p m h (boundary p (suc k)) i))
      (λ i b.
      eq-eqb (config_computed p m h (boundary p k) i) (config_computed p m h (boundary p (suc k)) i)
      (config_so (boundary p k) i earlier ∙ (agree i (omega arith) ∙ sym (config_so (boundary p (suc k)) i l))))

  no_agree : (k : ℕ) → boundary p (suc k) ≤ s → not (agree_test p m n h k) ≡ true → ¬ Agree p (plain p m) k
  no_agree k l e agree = both_ways (agree_test p m n h k) (not-true (agree_test p m n h k) e) (so_agree k l agree)

  holds_so : (a b k : ℕ) → holds_test p m n h s a b k ≡ true → Fixes p (plain p m) s (Holds a b)
  holds_so a b k rest0 =
      let (ea, rest1) = and_parts _ _ rest0 in
      let (eb, rest2) = and_parts _ _ rest1 in
      let (el, rest3) = and_parts _ _ rest2 in
      let (ec, rest4) = and_parts _ _ rest3 in
      let (eg, ef) = and_parts _ _ rest4 in
      let first : a ≡ boundary p k = eqb-true a (boundary p k) ea in
      let second : b ≡ boundary p (suc k) = eqb-true b (boundary p (suc k)) eb in
      let in_time : b ≤ s = leb-true b s el in (
        all_calm ec,
        (
          k,
          record {
            agree = λ i _. ap (λ t. config p (plain p m) t i) (sym first) ∙ (same_left_so a b (omega (arith, boundary_mono p k (suc k) (omega arith))) in_time eg i ∙ ap (λ t. config p (plain p m) t i) second);
            none_earlier = λ j l. no_agree j (omega (arith, boundary_mono p (suc j) (suc k) (omega arith))) (at_each k (λ j. not (agree_test p m n h j)) ef j l);
          },
          first,
          second,
          in_time,
        ),
      )

  missed_so : (i t : ℕ) → missed_test p m n h s i t ≡ true → Fixes p (plain p m) s (Missed i t)
  missed_so i t rest0 =
      let (ei, rest1) = and_parts _ _ rest0 in
      let (et, rest2) = and_parts _ _ rest1 in
      let (em, rest3) = and_parts _ _ rest2 in
      let (ec, el) = and_parts _ _ rest3 in
      let by_now : t ≤ s = leb-true t s et in (
        record {
          task = ltb-true i p.tasks ei;
          misses = miss_so t i by_now em;
          none_earlier = λ j u _ l. calm_so u (omega arith) (at_each t (calm_test p n h) ec u l) j;
          none_lower = λ j l. no_miss t j by_now (at_each i (λ j. not (miss_test p h t j)) el j l);
        },
        by_now,
      )

  running_so : (u : ℕ) → running_test p m n h s u ≡ true → Fixes p (plain p m) s (Running u)
  running_so u rest0 =
      let (eu, rest1) = and_parts _ _ rest0 in
      let (ec, rest2) = and_parts _ _ rest1 in
      let (ep, ek) = and_parts _ _ rest2 in
      let positive : 1 ≤ hyperperiod p = ltb-true 0 (hyperperiod p) ep in (
        all_calm ec,
        λ k l agree.
            ⊎_elim
            (λ (b : k < s).
            both_ways (leb (boundary p (suc k)) s && agree_test p m n h k)
            (not-true (leb (boundary p (suc k)) s && agree_test p m n h k) (at_each s (λ k. not (leb (boundary p (suc k)) s && agree_test p m n h k)) ek k b))
            (and_from (leb (boundary p (suc k)) s) (agree_test p m n h k) (le-leb (boundary p (suc k)) s l) (so_agree k l agree)))
            (λ (g : s ≤ k). let past : suc k ≤ boundary p (suc k) = omega (arith, mul-le-mul_left (suc k) positive) in omega arith)
            (cases_lt k s),
        eqb-true u s eu,
      )

  pub fixes_so : (v : Verdict) → fixes_test p m n h s v ≡ true → Fixes p (plain p m) s v
  fixes_so (Missed i t) e = missed_so i t e
  fixes_so (Holds a b) e = holds_so a b ((a - last_offset p) / hyperperiod p) e
  fixes_so (Running u) e = running_so u e

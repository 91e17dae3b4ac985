-- Where the order of jobs is strict and total, as many jobs run as there are CPUs, or all that are active.
use Rattle.std.proofs.Common.{◌≡◌, ℕ, zero, suc, ◌+◌, ◌-◌, ◌<◌, ◌≤◌, min, Bool, true, false, ◌&&◌, eqb, ltb, inl, inr, ⊎_elim, add-zero, add-suc, zero-add, arith}
use Rattle.std.proofs.lemmas.Bool.{cases_lt, cases_eq, ltb-true, lt-ltb, eqb-true, eq-eqb, and_parts, and_from, and_right}
use Rattle.schedule.specs.Counting.{count_below}
use Rattle.schedule.specs.Plan.{Plan, Ranked}
use Rattle.schedule.specs.Schedule.{age, active, stands_ahead, has_cpu}
use Rattle.schedule.specs.Claims.{AtMostMRun}
use Rattle.schedule.proofs.Sums.{count_mono, count_lt}
use Rattle.schedule.proofs.Counts.{count_join, count_zero, count_one}

module _ (p : Plan) (order : Ranked p) (t : ℕ) (c : ℕ → ℕ) where
  -- how many active jobs stand before task i's
  rank : ℕ → ℕ
  rank i = count_below p.tasks (stands_ahead p t c i)

  before : ℕ → ℕ → Bool
  before i j = p.before i (age p i t) j (age p j t)

  -- task i's job is active, and r active jobs stand before it
  at_rank : ℕ → ℕ → Bool
  at_rank r i = active p c i && eqb (rank i) r

  at_parts : (r i : ℕ) → at_rank r i ≡ true → (active p c i ≡ true) × (rank i ≡ r)
  unfolding at_rank
  at_parts r i e = let (a, b) = and_parts (active p c i) (eqb (rank i) r) e in (a, eqb-true (rank i) r b)

  runs_parts : (m i : ℕ) → has_cpu p m t c i ≡ true → (active p c i ≡ true) × (rank i < m)
  unfolding rank
  runs_parts m i e =
      let (on, q) = and_parts (p.present i) (ltb 0 (c i) && ltb (rank i) m) e in
      let (some, few) = and_parts (ltb 0 (c i)) (ltb (rank i) m) q in
      (and_from (p.present i) (ltb 0 (c i)) on some, ltb-true (rank i) m few)

  runs_from : (m i : ℕ) → active p c i ≡ true → rank i < m → has_cpu p m t c i ≡ true
  unfolding rank
  runs_from m i e h =
      let (on, some) = and_parts (p.present i) (ltb 0 (c i)) e in
      and_from (p.present i) (ltb 0 (c i) && ltb (rank i) m) on (and_from (ltb 0 (c i)) (ltb (rank i) m) some (lt-ltb (rank i) m h))

  not_itself : (i : ℕ) → stands_ahead p t c i i ≡ false
  not_itself i = and_right (ltb 0 (c i)) (p.before i (age p i t) i (age p i t)) (order.irreflexive i (age p i t))

  ahead_active : (i j : ℕ) → stands_ahead p t c i j ≡ true → active p c j ≡ true
  ahead_active i j e =
      let (some, b) = and_parts (ltb 0 (c j)) (p.before j (age p j t) i (age p i t)) e in
      and_from (p.present j) (ltb 0 (c j)) (order.of_tasks j (age p j t) i (age p i t) b) some

  -- fewer active jobs stand before one than are active
  rank_below : (i : ℕ) → i < p.tasks → active p c i ≡ true → rank i < count_below p.tasks (active p c)
  unfolding rank
  rank_below i h e = count_lt p.tasks (stands_ahead p t c i) (active p c) i h (λ j _ q. ahead_active i j q) (not_itself i) e

  -- fewer stand before the earlier of two
  rank_lt : (i j : ℕ) → i < p.tasks → active p c i ≡ true → before i j ≡ true → rank i < rank j
  unfolding rank before
  rank_lt i j h e b =
      count_lt p.tasks (stands_ahead p t c i) (stands_ahead p t c j) i h
      (λ x _ q.
      let (some, first) = and_parts (ltb 0 (c x)) (p.before x (age p x t) i (age p i t)) q in
      and_from (ltb 0 (c x)) (p.before x (age p x t) j (age p j t)) some (order.transitive x (age p x t) i (age p i t) j (age p j t) first b))
      (not_itself i)
      (and_from (ltb 0 (c i)) (p.before i (age p i t) j (age p j t)) (and_parts (p.present i) (ltb 0 (c i)) e).1 b)

  present : (i : ℕ) → active p c i ≡ true → p.present i ≡ true
  present i e = (and_parts (p.present i) (ltb 0 (c i)) e).0

  one_at : (r : ℕ) → count_below p.tasks (at_rank r) ≤ 1
  unfolding before
  one_at r =
      count_one p.tasks (at_rank r)
      (λ i j hi hj x y.
      let (ai, ri) = at_parts r i x in
      let (aj, rj) = at_parts r j y in
      ⊎_elim
      (λ (e : i ≡ j). e)
      (λ (ne : i ≡ j → ⊥).
      ⊎_elim
      (λ (b : before i j ≡ true). absurd (omega (arith, rank_lt i j hi ai b)))
      (λ (b : before j i ≡ true). absurd (omega (arith, rank_lt j i hj aj b)))
      (order.total i (age p i t) j (age p j t) (hi, present i ai) (hj, present j aj) ne))
      (cases_eq i j))

  running : ℕ → ℕ
  running m = count_below p.tasks (has_cpu p m t c)

  -- one CPU more runs one job more at most
  one_more : (m : ℕ) → running (suc m) ≤ running m + 1
  unfolding running at_rank
  one_more m =
      omega (
        arith,
        one_at m,
        count_join p.tasks (has_cpu p (suc m) t c) (has_cpu p m t c) (at_rank m)
            (λ i _ e.
            let (a, r) = runs_parts (suc m) i e in
            ⊎_elim
            (λ (l : rank i < m). inl (runs_from m i a l))
            (λ (l : m ≤ rank i). inr (and_from (active p c i) (eqb (rank i) m) a (eq-eqb (rank i) m (omega arith))))
            (cases_lt (rank i) m)),
      )

  more : (m d : ℕ) → running (m + d) ≤ running m + d
  more m zero = rw (add-zero m) (omega arith)
  more m (suc d) = rw (add-suc m d) (omega (arith, one_more (m + d), more m d))

  none_runs : running 0 ≡ 0
  unfolding running
  none_runs = count_zero p.tasks (has_cpu p 0 t c) (λ i _ e. omega (arith, (runs_parts 0 i e).1))

  few : (m : ℕ) → running m ≤ count_below p.tasks (active p c)
  unfolding running
  few m = count_mono p.tasks (has_cpu p m t c) (active p c) (λ i _ e. (runs_parts m i e).0)

  all : (m : ℕ) → count_below p.tasks (active p c) ≤ m → count_below p.tasks (active p c) ≤ running m
  unfolding running
  all m h = count_mono p.tasks (active p c) (has_cpu p m t c) (λ i l e. runs_from m i e (omega (arith, rank_below i l e)))

  as_many : (m : ℕ) → running m ≡ min m (count_below p.tasks (active p c))
  as_many m =
      let n : ℕ = count_below p.tasks (active p c) in
      ⊎_elim
      (λ (h : m < n).
      let back : m + (n - m) ≡ n = omega arith in
      let up : running n ≤ running m + (n - m) = rw back at (more m (n - m)) in
      let low : running m ≤ running 0 + m = rw zero-add at (more 0 m) in
      omega (arith, all n (omega arith), none_runs))
      (λ (h : n ≤ m). omega (arith, few m, all m h))
      (cases_lt m n)

pub at_most_m_run : AtMostMRun
unfolding running
at_most_m_run p order m t c = as_many p order t c m

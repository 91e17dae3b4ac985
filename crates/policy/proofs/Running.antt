-- Which jobs run, by the plan and by the keys of the jobs.
use Rattle.std.proofs.Common.{◌≡◌, ℕ, ◌<◌, ◌≤◌, Bool, true, false, cond, ◌&&◌, ltb, List, get_or, is_some, Some, None, Option, sym, refl, ap, ◌∙◌, ⊎_elim, arith}
use lib.Count.{ones}
use Rattle.std.proofs.Math.Bool.{and-false}
use Rattle.std.proofs.lemmas.Bool.{and_parts, and_from, lt-ltb, cases_Bool}
use Rattle.std.proofs.lemmas.Option.{cond_some}
use Rattle.schedule.specs.Counting.{count_below}
use Rattle.schedule.specs.Schedule.{has_cpu, stands_ahead}
use Rattle.schedule.proofs.Sums.{count_same, count_lt}
use Rattle.task.specs.declared.entry.Entry.{Entry}
use Rattle.task.proofs.Obeying.{cond_none}
use Rattle.policy.specs.Order.{stands_before}
use Rattle.policy.specs.Plans.{plan_of, goes_before}
use Rattle.policy.specs.Ages.{age_of}
use Rattle.policy.specs.Sets.{left_of, word_of}
use Rattle.policy.specs.Dispatch.{job_key, key_at, since, set_job, ahead_of, count_ahead, is_active, Known}
use Rattle.policy.specs.Members.{has}
use Rattle.policy.proofs.Ranks.{goes_some, goes_itself}
use Rattle.policy.proofs.Words.{word_same, word_ones, word_has}

-- the same of the key at i: there is a job, and fewer than m active jobs stand before it
abbrev pub runs_at : {K : Type 0} → (K → K → Bool) → (ℕ → Option K) → (m i : ℕ) → Option K → Bool
runs_at le jobs m i None = false
runs_at le jobs m i (Some k) = ltb (count_ahead le jobs k i) m

-- task i's job is active, and fewer than m active jobs stand before it
abbrev pub runs_of : {K : Type 0} → (K → K → Bool) → (ℕ → Option K) → (m i : ℕ) → Bool
runs_of le jobs m i = runs_at le jobs m i (jobs i)

module _ {K : Type 0} (keyed : Entry → ℕ → K) (le : K → K → Bool) where
  -- 1. by the keys
  flagged : (x : Bool) (k : K) (j : ℕ) (l : K) (i : ℕ) → ahead_of le (cond x (Some k) None) j l i ≡ (x && stands_before le k j l i)
  flagged true k j l i = refl
  flagged false k j l i = refl

  ahead_is : (o : Option Entry) (j b r : ℕ) (s : Entry) (i a : ℕ) → ahead_of le (job_key keyed o b r) j (keyed s a) i ≡ (ltb 0 r && goes_before keyed le o j b (Some s) i a)
  ahead_is None j b r s i a = sym (and-false (ltb 0 r))
  ahead_is (Some t) j b r s i a = flagged (ltb 0 r) (keyed t b) j (keyed s a) i

  module _ (at : ℕ → Option Entry) (left : List ℕ) (m t : ℕ) where
    -- the keys of the active jobs
    abbrev job : ℕ → Option K
    job j = job_key keyed (at j) (age_of (at j) t) (left_of left j)

    runs_by : (o : Option Entry) (r a i : ℕ) (k : K) → job_key keyed o a r ≡ Some k
        → (is_some o && (ltb 0 r && ltb (count_below 32 (λ j. ltb 0 (left_of left j) && goes_before keyed le (at j) j (age_of (at j) t) o i a)) m)) ≡ ltb (count_ahead le job k i) m
    runs_by None r a i k e = absurd (cc)
    runs_by (Some s) r a i k e =
        let (on, same) = cond_some (ltb 0 r) (keyed s a) k e in
        ap (λ x. x && ltb (count_below 32 (λ j. ltb 0 (left_of left j) && goes_before keyed le (at j) j (age_of (at j) t) (Some s) i a)) m) on
        ∙ ap (λ n. ltb n m) (count_same 32 _ _ (λ j h. sym (ahead_is (at j) j (age_of (at j) t) (left_of left j) s i a)))
        ∙ ap (λ (l : K). ltb (count_ahead le job l i) m) same

    idle_by : (o : Option Entry) (r a i : ℕ) (u : Bool) → job_key keyed o a r ≡ None → (is_some o && (ltb 0 r && u)) ≡ false
    idle_by None r a i u e = refl
    idle_by (Some s) r a i u e = ap (λ x. x && u) (cond_none (ltb 0 r) (keyed s a) None e).0

    runs_some : (i : ℕ) (k : K) → job i ≡ Some k → has_cpu (plan_of keyed le at) m t (left_of left) i ≡ ltb (count_ahead le job k i) m
    runs_some i k e = runs_by (at i) (left_of left i) (age_of (at i) t) i k e

    runs_none : (i : ℕ) → job i ≡ None → has_cpu (plan_of keyed le at) m t (left_of left) i ≡ false
    runs_none i e = idle_by (at i) (left_of left i) (age_of (at i) t) i _ e

    -- by keys that are told otherwise
    module _ (jobs : ℕ → Option K) (same : (j : ℕ) → j < 32 → jobs j ≡ job j) where
      runs_so : (i : ℕ) (o : Option K) → job i ≡ o → runs_at le jobs m i o ≡ has_cpu (plan_of keyed le at) m t (left_of left) i
      runs_so i None e = sym (runs_none i e)
      runs_so i (Some k) e = ap (λ n. ltb n m) (count_same 32 (λ j. ahead_of le (jobs j) j k i) (λ j. ahead_of le (job j) j k i) (λ j h. ap (λ o. ahead_of le o j k i) (same j h))) ∙ sym (runs_some i k e)

      set_by_keys : word_of (runs_of le jobs m) 32 ≡ word_of (has_cpu (plan_of keyed le at) m t (left_of left)) 32
      set_by_keys = word_same (runs_of le jobs m) (has_cpu (plan_of keyed le at) m t (left_of left)) 32 (λ i h. ap (runs_at le jobs m i) (same i h) ∙ runs_so i (job i) refl)

  none_either : (x : Bool) → cond {A = Option K} x None None ≡ None
  none_either true = refl
  none_either false = refl

  aged : (x : Bool) (s : Entry) (a b : ℕ) → (x ≡ true → a ≡ b) → cond x (Some (keyed s a)) None ≡ cond x (Some (keyed s b)) None
  aged true s a b h = ap (λ n. Some (keyed s n)) (h refl)
  aged false s a b h = refl

  same_key : (o : Option Entry) (x : Bool) (a b r : ℕ) → x ≡ (is_some o && ltb 0 r) → (x ≡ true → a ≡ b) → cond x (key_at keyed o a) None ≡ job_key keyed o b r
  same_key None x a b r e h = none_either x
  same_key (Some s) x a b r e h = aged x s a b h ∙ ap (λ y. cond y (Some (keyed s b)) None) e

  pub set_by_ages : (at : ℕ → Option Entry) (left : List ℕ) (set : ℕ) (released : List ℕ) (m t : ℕ) → Known at left set released t
      → word_of (runs_of le (set_job keyed at set released t) m) 32 ≡ word_of (has_cpu (plan_of keyed le at) m t (left_of left)) 32
  set_by_ages at left set released m t k =
      set_by_keys at left m t (set_job keyed at set released t)
      (λ j l. let on : has set j ≡ is_active at left j = word_has (is_active at left) set j k.set_is l in
      same_key (at j) (has set j) (since (get_or released j 0) t) (age_of (at j) t) (left_of left j) on (λ h. k.ages_are j l (sym on ∙ h)))

  -- 2. where there are CPUs for all
  pub idle_part : (a b c : Bool) → (a && b) ≡ false → (a && (b && c)) ≡ false
  idle_part a b c e = grind arith

  module _ (at : ℕ → Option Entry) (left : List ℕ) (m t : ℕ) (few : count_below 32 (is_active at left) ≤ m) where
    pub all_run : (i : ℕ) → i < 32 → is_active at left i ≡ has_cpu (plan_of keyed le at) m t (left_of left) i
    all_run i h =
        ⊎_elim
        (λ (on : is_active at left i ≡ true).
        let (here, more) = and_parts (is_some (at i)) (ltb 0 (left_of left i)) on in
        let fewer : count_below 32 (stands_ahead (plan_of keyed le at) t (left_of left) i) < count_below 32 (is_active at left) =
        count_lt 32 (stands_ahead (plan_of keyed le at) t (left_of left) i) (is_active at left) i h
        (λ j l e. let (x, y) = and_parts (ltb 0 (left_of left j)) (goes_before keyed le (at j) j (age_of (at j) t) (at i) i (age_of (at i) t)) e in and_from (is_some (at j)) (ltb 0 (left_of left j)) (goes_some keyed le (at j) (at i) j (age_of (at j) t) i (age_of (at i) t) y) x)
        (ap (λ x. ltb 0 (left_of left i) && x) (goes_itself keyed le (at i) i (age_of (at i) t)) ∙ and-false (ltb 0 (left_of left i)))
        on in
        on ∙ sym (and_from (is_some (at i)) _ here (and_from (ltb 0 (left_of left i)) _ more (lt-ltb (count_below 32 (stands_ahead (plan_of keyed le at) t (left_of left) i)) m (omega arith)))))
        (λ (off : is_active at left i ≡ false). off ∙ sym (idle_part (is_some (at i)) (ltb 0 (left_of left i)) _ off))
        (cases_Bool (is_active at left i))

    all_set : word_of (is_active at left) 32 ≡ word_of (has_cpu (plan_of keyed le at) m t (left_of left)) 32
    all_set = word_same (is_active at left) (has_cpu (plan_of keyed le at) m t (left_of left)) 32 all_run

  pub few_run : (at : ℕ → Option Entry) (left : List ℕ) (m t set : ℕ) → set ≡ word_of (is_active at left) 32 → ones set ≤ m → set ≡ word_of (has_cpu (plan_of keyed le at) m t (left_of left)) 32
  few_run at left m t set e h = e ∙ all_set at left m t (let q : ones set ≡ count_below 32 (is_active at left) = ap ones e ∙ word_ones (is_active at left) 32 in omega arith)

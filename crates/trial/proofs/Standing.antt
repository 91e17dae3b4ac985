-- A trial that was started and is undecided stands on the endless schedule, and what decides it decides the schedule.
use Rattle.std.proofs.Common.{◌≡◌, ℕ, suc, ◌+◌, ◌-◌, ◌*◌, ◌<◌, ◌≤◌, Bool, true, eqb, ltb, ◌⊎◌, Option, sym, refl, ap, ◌∙◌, subst, ⊎_elim, mul-le-mul, add-one, arith}
use Rattle.std.proofs.lemmas.Bool.{both_ways, cases_lt, cases_order, cases_eq, and_parts, and_from, ltb-true, lt-ltb, eq-eqb, ne_eqb, cond-true, cond-false}
use Rattle.schedule.specs.Plan.{Plan, Sound, Way, plain, whole_time}
use Rattle.schedule.specs.Hyperperiod.{last_offset, hyperperiod}
use Rattle.schedule.specs.Schedule.{deadline_at, opened, has_cpu, slot, left, config, Misses, boundary, Agree}
use Rattle.schedule.specs.Verdict.{FirstMiss, NoMissBy, Fixes, Missed, Holds, Running}
use Rattle.schedule.proofs.Grows.{next_boundary}
use Rattle.schedule.proofs.Hyperperiods.{hyperperiod_positive}
use Rattle.schedule.proofs.Same.{has_cpu_same, slot_same, left_next, left_first}
use Rattle.schedule.proofs.Tells.{wait_ends}
use Rattle.schedule.proofs.Verdicts.{boundary_mono}
use Rattle.task.specs.declared.entry.Entry.{Entry}
use Rattle.policy.specs.Plans.{plan_of}
use Rattle.policy.specs.Sets.{left_of, word_of}
use Rattle.policy.proofs.Words.{word_same}
use Rattle.trial.specs.declared.trial.Trial.{Trial}
use Rattle.trial.specs.declared.trial.Outcome.TheVariants.{Ran, Missed as Miss, Agreed}
use Rattle.trial.specs.Places.{opens}
use Rattle.trial.specs.LastSet.{LastSet}
use Rattle.trial.specs.Trials.{NonePasses, Equal, Fresh, after_slot, missing, Moved, Passed, Between, CameTo, Undecided, here, on}

module _ {K : Type 0} (keyed : Entry → ℕ → K) (le : K → K → Bool) (at : ℕ → Option Entry) (sound : Sound (plan_of keyed le at)) (m : ℕ) where
  abbrev plan : Plan
  plan = plan_of keyed le at

  abbrev way : Way
  way = plain plan m

  positive : 0 < hyperperiod plan
  positive = hyperperiod_positive plan sound

  -- a trial that stands on the schedule, undecided; `laps` boundaries are behind it
  pub record Stands (a : Trial) : Type 0 where
    pub cpus_is : a.cpus ≡ m
    pub start_is : a.start ≡ last_offset plan
    pub span_is : a.span ≡ hyperperiod plan
    pub left_is : (i : ℕ) → i < 32 → left_of a.left i ≡ config plan way a.instant i
    pub laps : ℕ
    pub next_is : a.next ≡ boundary plan laps
    pub ahead : a.instant < a.next
    pub behind : (j : ℕ) → laps ≡ suc j → boundary plan j ≤ a.instant
    pub last_is : (j : ℕ) → laps ≡ suc j → a.last ≡ boundary plan j
    pub saved_is : (j : ℕ) → laps ≡ suc j → (i : ℕ) → i < 32 → left_of a.saved i ≡ config plan way (boundary plan j) i
    pub quiet : NoMissBy plan way a.instant
    pub apart : (j : ℕ) → boundary plan (suc j) ≤ a.instant → ¬ Agree plan way j

  pub still_running : (a : Trial) → Stands a → (u : ℕ) → u ≤ a.instant → Fixes plan way u (Running u)
  still_running a k u l = ((λ i t hi h. k.quiet i t hi (omega arith)), (λ j h. k.apart j (omega arith)), refl)

  -- the boundary that comes next is the one that the trial waits for
  awaited : (a : Trial) (k : Stands a) (j : ℕ) → boundary plan j ≡ suc a.instant → j ≡ k.laps
  awaited a k j e =
      ⊎_elim
      (λ (q : j ≡ k.laps). q)
      (⊎_elim
      (λ (l : j < k.laps).
      let b : boundary plan (k.laps - 1) ≤ a.instant = k.behind (k.laps - 1) (omega arith) in
      absurd (omega (arith, boundary_mono plan j (k.laps - 1) (omega arith))))
      (λ (l : k.laps < j).
      let s : 0 < hyperperiod plan = positive in
      absurd (omega (arith, boundary_mono plan (suc k.laps) j l, next_boundary plan k.laps, k.next_is, k.ahead))))
      (cases_order j k.laps)

  module _ (a b : Trial) (k : Stands a) (mv : Moved plan a b) where
    b_at : b.instant ≡ suc a.instant
    b_at = mv.later ∙ add-one a.instant

    after_is : (i : ℕ) → i < 32 → after_slot plan a i ≡ left plan way (suc a.instant) i
    after_is i h =
        ap (λ c. slot plan c a.instant (left_of a.left) i) k.cpus_is
        ∙ (slot_same plan m a.instant (left_of a.left) (config plan way a.instant) k.left_is i h ∙ sym (left_next plan way a.instant i))

    left_now : (i : ℕ) → i < 32 → left_of b.left i ≡ config plan way b.instant i
    left_now i h =
        mv.left_is i h
        ∙ (ap (opened plan way i (a.instant + 1)) (after_is i h)
        ∙ (ap (λ u. opened plan way i u (left plan way (suc a.instant) i)) (add-one a.instant) ∙ sym (ap (λ u. config plan way u i) b_at)))

    pub set_now : LastSet plan m b.instant b.ran
    set_now =
        record {
          none = λ e. absurd (omega (arith, b_at));
          some =
              λ t e.
              let q : a.instant ≡ t = omega (arith, b_at) in
              mv.ran_is
              ∙ (ap (λ c. word_of (has_cpu plan c a.instant (left_of a.left)) 32) k.cpus_is
              ∙ (word_same (has_cpu plan m a.instant (left_of a.left)) (has_cpu plan m a.instant (config plan way a.instant)) 32 (has_cpu_same plan m a.instant (left_of a.left) (config plan way a.instant) k.left_is)
              ∙ ap (λ u. word_of (has_cpu plan m u (config plan way u)) 32) q));
        }

    miss_true : (i : ℕ) → i < 32 → Misses plan way i (suc a.instant) → missing plan a i ≡ true
    miss_true i h miss =
        let dead : deadline_at plan i (a.instant + 1) ≡ true = ap (deadline_at plan i) (add-one a.instant) ∙ miss.0 in
        and_from (deadline_at plan i (a.instant + 1)) _ dead (lt-ltb 0 (after_slot plan a i) (omega (arith, after_is i h, miss.1)))

    true_miss : (i : ℕ) → i < 32 → missing plan a i ≡ true → Misses plan way i (suc a.instant)
    true_miss i h e =
        let r = and_parts (deadline_at plan i (a.instant + 1)) (ltb 0 (after_slot plan a i)) e in
        (sym (ap (deadline_at plan i) (add-one a.instant)) ∙ r.0, omega (arith, after_is i h, ltb-true 0 (after_slot plan a i) r.1))

    quiet_now : NonePasses (missing plan a) → NoMissBy plan way (suc a.instant)
    quiet_now none i u hi l miss =
        ⊎_elim
        (λ (lt : u < suc a.instant). k.quiet i u hi (omega arith) miss)
        (λ (ge : suc a.instant ≤ u). let e : u ≡ suc a.instant = omega arith in both_ways (missing plan a i) (none i hi) (miss_true i hi (rw e at miss)))
        (cases_lt u (suc a.instant))

    -- what is left now equals what was saved, where the boundaries agree; and the other way
    agree_equal : (j : ℕ) → k.laps ≡ suc j → boundary plan (suc j) ≡ suc a.instant → Agree plan way j → Equal b.left a.saved
    agree_equal j e q ag i h = left_now i h ∙ (ap (λ u. config plan way u i) (b_at ∙ sym q) ∙ (sym (ag i h) ∙ sym (k.saved_is j e i h)))

    equal_agree : (j : ℕ) → k.laps ≡ suc j → boundary plan (suc j) ≡ suc a.instant → Equal b.left a.saved → Agree plan way j
    equal_agree j e q s i h = sym (k.saved_is j e i h) ∙ (sym (s i h) ∙ (left_now i h ∙ ap (λ u. config plan way u i) (b_at ∙ sym q)))

    apart_now : Passed a b ⊎ Between a b → (j : ℕ) → boundary plan (suc j) ≤ suc a.instant → ¬ Agree plan way j
    apart_now w j l ag =
        ⊎_elim
        (λ (lt : boundary plan (suc j) < suc a.instant). k.apart j (omega arith) ag)
        (λ (ge : suc a.instant ≤ boundary plan (suc j)).
        let q : boundary plan (suc j) ≡ suc a.instant = omega arith in
        let e : suc j ≡ k.laps = awaited a k (suc j) q in
        let here : a.next ≡ suc a.instant = k.next_is ∙ (ap (boundary plan) (sym e) ∙ q) in
        ⊎_elim
        (λ (x : Passed a b).
        let s : 0 < hyperperiod plan = positive in
        x.differs (omega (arith, k.start_is, here, q, next_boundary plan j)) (agree_equal j (sym e) q ag))
        (λ (x : Between a b). x.not_yet (omega (arith, here)))
        w)
        (cases_lt (boundary plan (suc j)) (suc a.instant))

    pub stands_on : CameTo plan a b Ran → Stands b
    stands_on told = ⊎_elim passed between told.1
      where
        quiet_b : NoMissBy plan way b.instant
        quiet_b i t hi h = quiet_now told.0 i t hi (omega (arith, b_at))

        apart_b : (j : ℕ) → boundary plan (suc j) ≤ b.instant → ¬ Agree plan way j
        apart_b j h = apart_now told.1 j (omega (arith, b_at))

        passed : Passed a b → Stands b
        passed x =
            let s : 0 < hyperperiod plan = positive in
            let now_at : boundary plan k.laps ≡ b.instant = omega (arith, k.next_is, x.reached, b_at) in
            let at_j : (j : ℕ) → suc k.laps ≡ suc j → boundary plan j ≡ b.instant = λ j e. let q : j ≡ k.laps = omega arith in ap (boundary plan) q ∙ now_at in
            record {
              cpus_is = mv.cpus_kept ∙ k.cpus_is;
              start_is = mv.start_kept ∙ k.start_is;
              span_is = mv.span_kept ∙ k.span_is;
              left_is = left_now;
              laps = suc k.laps;
              next_is = omega (arith, x.next_is, k.next_is, k.span_is, next_boundary plan k.laps);
              ahead = omega (arith, x.next_is, x.reached, k.span_is, b_at);
              behind = λ j e. omega (arith, at_j j e);
              last_is = λ j e. omega (arith, at_j j e, x.last_is, x.reached, b_at);
              saved_is = λ j e i h. ap (λ xs. left_of xs i) x.saved_is ∙ (left_now i h ∙ ap (λ u. config plan way u i) (sym (at_j j e)));
              quiet = quiet_b;
              apart = apart_b;
            }

        between : Between a b → Stands b
        between x =
            record {
              cpus_is = mv.cpus_kept ∙ k.cpus_is;
              start_is = mv.start_kept ∙ k.start_is;
              span_is = mv.span_kept ∙ k.span_is;
              left_is = left_now;
              laps = k.laps;
              next_is = x.kept.next_kept ∙ k.next_is;
              ahead = let ne : a.next ≡ a.instant + 1 → ⊥ = x.not_yet in omega (arith, x.kept.next_kept, k.ahead, b_at);
              behind = λ j e. omega (arith, k.behind j e, b_at);
              last_is = λ j e. x.kept.last_kept ∙ k.last_is j e;
              saved_is = λ j e i h. ap (λ xs. left_of xs i) x.kept.saved_kept ∙ k.saved_is j e i h;
              quiet = quiet_b;
              apart = apart_b;
            }

    pub missed_now : (i : ℕ) → CameTo plan a b (Miss i) → Fixes plan way b.instant (Missed i b.instant)
    missed_now i told =
        let low = told.0 in
        let first : FirstMiss plan way i (suc a.instant) =
        record {
          task = low.0;
          misses = true_miss i low.0 low.1;
          none_earlier = λ j u hj l. k.quiet j u hj (omega arith);
          none_lower = λ j l miss. both_ways (missing plan a j) (low.2 j l) (miss_true j (omega (arith, low.0)) miss);
        } in
        (subst (FirstMiss plan way i) (sym b_at) first, omega arith)

    pub agreed_now : (x y : ℕ) → CameTo plan a b (Agreed x y) → Fixes plan way b.instant (Holds x y)
    agreed_now x y told =
        let r = told.1 in
        let some_lap : k.laps ≡ 0 → ⊥ = λ z. let q : a.next ≡ boundary plan 0 = k.next_is ∙ ap (boundary plan) z in omega (arith, k.start_is, r.second) in
        let e : k.laps ≡ suc (k.laps - 1) = omega arith in
        let q : boundary plan (suc (k.laps - 1)) ≡ suc a.instant = ap (boundary plan) (sym e) ∙ (sym k.next_is ∙ (r.reached ∙ add-one a.instant)) in (
          (λ i t hi h. quiet_now told.0 i t hi (omega (arith, b_at))),
          (
            k.laps - 1,
            record {
              agree = equal_agree (k.laps - 1) e q r.equal;
              none_earlier = λ i l. k.apart i (omega (arith, boundary_mono plan (suc i) (k.laps - 1) l, k.behind (k.laps - 1) e));
            },
            told.2 ∙ k.last_is (k.laps - 1) e,
            told.3 ∙ (k.next_is ∙ ap (boundary plan) e),
            omega (arith, told.3, r.reached, b_at),
          ),
        )

  -- after n undecided slots
  pub undecided_stands : (a : Trial) {b : Trial} {n : ℕ} → Undecided plan a n b → Stands a → LastSet plan m a.instant a.ran → Stands b × (b.instant ≡ a.instant + n) × LastSet plan m b.instant b.ran
  undecided_stands a here k s = (k, omega arith, s)
  undecided_stands a (on {n} {b} {c} ch mv told) k s =
      let r = undecided_stands a ch k s in
      (stands_on b c r.0 mv told, omega (arith, mv.later, r.1), set_now b c r.0 mv)

  -- no trial comes undecided to the last instant
  pub never_that_late : whole_time plan ≤ 1920000 → (a : Trial) → a.start ≤ 1000000 → a.span ≤ 10000000 → Stands a → 1000000000000000 ≤ a.instant → ⊥
  never_that_late small a early short k far =
      let u : suc (whole_time plan) ≤ 1920001 = omega (arith, small) in
      let s : hyperperiod plan ≤ 10000000 = omega (arith, short, k.span_is) in
      let w : suc (whole_time plan) * hyperperiod plan ≤ 1920001 * 10000000 = mul-le-mul u s in
      wait_ends plan sound m a.instant a.instant (omega (arith, early, k.start_is)) (still_running a k a.instant (omega arith))

  -- a fresh trial stands at instant 0
  pub fresh_stands : (r : Trial) → Fresh at m r → Stands r × LastSet plan m r.instant r.ran
  fresh_stands r f = (⊎_elim at_once later (cases_eq r.start 0), record { none = λ _. f.ran_is; some = λ t e. absurd (omega (arith, f.instant_is)) })
    where
      start_config : (i : ℕ) → i < 32 → left_of r.left i ≡ config plan way r.instant i
      start_config i h =
          f.left_is i h
          ∙ (ap (opens (at i) 0) (sym (left_first plan way i)) ∙ sym (ap (λ u. config plan way u i) f.instant_is))

      quiet_0 : NoMissBy plan way r.instant
      quiet_0 i t hi h miss =
          let e : t ≡ 0 = omega (arith, f.instant_is) in
          omega (arith, rw e at miss.1, left_first plan way i)

      apart_0 : (j : ℕ) → boundary plan (suc j) ≤ r.instant → ¬ Agree plan way j
      apart_0 j h _ = let s : 0 < hyperperiod plan = positive in omega (arith, f.instant_is, next_boundary plan j)

      at_once : r.start ≡ 0 → Stands r
      at_once z =
          let s : 0 < hyperperiod plan = positive in
          let start : r.start ≡ last_offset plan = f.start_is in
          let span : r.span ≡ hyperperiod plan = f.span_is in
          let next : r.next ≡ r.span = f.next_is ∙ cond-true (eqb r.start 0) r.span r.start (eq-eqb r.start 0 z) in
          let at_j : (j : ℕ) → 1 ≡ suc j → boundary plan j ≡ 0 = λ j e. let q : j ≡ 0 = omega arith in ap (boundary plan) q ∙ omega (arith, start, z) in
          record {
            cpus_is = f.cpus_is;
            start_is = start;
            span_is = span;
            left_is = start_config;
            laps = 1;
            next_is = omega (arith, next, span, start, z);
            ahead = omega (arith, next, span, f.instant_is);
            behind = λ j e. omega (arith, at_j j e);
            last_is = λ j e. f.last_is ∙ sym (at_j j e);
            saved_is = λ j e i h. ap (λ xs. left_of xs i) f.saved_is ∙ (start_config i h ∙ ap (λ u. config plan way u i) (f.instant_is ∙ sym (at_j j e)));
            quiet = quiet_0;
            apart = apart_0;
          }

      later : (r.start ≡ 0 → ⊥) → Stands r
      later nz =
          let start : r.start ≡ last_offset plan = f.start_is in
          let next : r.next ≡ r.start = f.next_is ∙ cond-false (eqb r.start 0) r.span r.start (ne_eqb r.start 0 nz) in
          record {
            cpus_is = f.cpus_is;
            start_is = start;
            span_is = f.span_is;
            left_is = start_config;
            laps = 0;
            next_is = omega (arith, next, start);
            ahead = omega (arith, next, f.instant_is);
            behind = λ j e. absurd (omega arith);
            last_is = λ j e. absurd (omega arith);
            saved_is = λ j e. absurd (omega arith);
            quiet = quiet_0;
            apart = apart_0;
          }

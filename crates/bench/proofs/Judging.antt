-- The verdict of a started bench is that of the endless schedule.
use Rattle.std.proofs.Common.{◌≡◌, ℕ, ◌+◌, ◌≤◌, Bool, true, ◌⊎◌, List, Option, sym, refl, ap, ◌∙◌, subst, ⊎_elim, arith}
use lib.Count.{ones}
use Rattle.schedule.specs.Counting.{count_below}
use Rattle.schedule.specs.Plan.{Plan, Sound, plain}
use Rattle.schedule.specs.Schedule.{has_cpu, config}
use Rattle.schedule.proofs.Ranks.{at_most_m_run}
use Rattle.schedule.specs.Judgement.{Settles, Decided}
use Rattle.schedule.specs.Verdict as Theory
use Rattle.schedule.proofs.Tells.{settled_verdicts_promise, one_settled_verdict}
use Rattle.task.specs.declared.entry.Entry.{Entry}
use Rattle.task.specs.declared.task.Task.{Task}
use Rattle.task.specs.Tables.{entry_at}
use Rattle.policy.specs.Plans.{plan_of}
use Rattle.trial.specs.declared.trial.Trial.{Trial}
use Rattle.policy.proofs.Ranks.{plan_ranked}
use Rattle.policy.proofs.Words.{word_ones}
use Rattle.trial.specs.LastSet.{LastSet}
use Rattle.trial.specs.Trials.{Fresh}
use Rattle.trial.proofs.Tasks.{tasks_sound, tasks_small}
use Rattle.trial.proofs.Standing.{Stands, still_running, set_now, missed_now, agreed_now, undecided_stands, never_that_late, fresh_stands}
use Rattle.bench.specs.declared.mode.Mode.{Mode}
use Rattle.bench.specs.declared.mode.Mode.TheVariants.{Open, Running, Held, Missed}
use Rattle.bench.specs.Judged.{GivenRuns, none, more, SinceStart, Judged, OnlyVerdict, SetShown}
use Rattle.bench.specs.Modes.{is_started, meaning, verdict_of, set_of}
use Rattle.bench.specs.Steps.{GoesOn}

module _ {K : Type 0} (keyed : Entry → ℕ → K) (le : K → K → Bool) (tasks : List (Option Task)) (m : ℕ) where
  abbrev at : ℕ → Option Entry
  at = entry_at tasks

  abbrev plan : Plan
  plan = plan_of keyed le at

  -- a bench that was given n slots since its start: a trial that stands at n, or a decided one
  abbrev pub Where : ℕ → Mode → Type 0
  Where n Open = ⊥
  Where n (Running a) = Stands keyed le at (tasks_sound keyed le tasks) m a × (a.instant ≡ n) × LastSet plan m a.instant a.ran × (a.start ≤ 1000000) × (a.span ≤ 10000000)
  Where n (Held a x y) = Settles plan m n a.instant (Theory.Holds x y) × LastSet plan m a.instant a.ran
  Where n (Missed a i t) = Settles plan m n a.instant (Theory.Missed i t) × LastSet plan m a.instant a.ran

  longer : (n k s : ℕ) (v : Theory.Verdict) → Decided v → Settles plan m n s v → Settles plan m (n + k) s v
  longer n k s v d st = record { within = omega (arith, st.within); fixed = st.fixed; waits = st.waits; stops = λ l. d }

  abbrev sound : Sound plan
  sound = tasks_sound keyed le tasks

  pub goes_where : (n k : ℕ) (a b : Mode) → Where n a → GoesOn plan a k b → Where (n + k) b
  goes_where n k Open b i r = absurd i
  goes_where n k (Running a) Open i r = absurd r
  goes_where n k (Running a) (Running b) i r =
      let c = undecided_stands keyed le at sound m a r.1 i.0 i.2 in
      let early : b.start ≤ 1000000 = omega (arith, c.0.start_is, i.0.start_is, i.3) in
      let short : b.span ≤ 10000000 = omega (arith, c.0.span_is, i.0.span_is, i.4) in (
        c.0,
        ⊎_elim (λ (e : r.0 ≡ k). omega (arith, c.1, i.1)) (λ (far : 1000000000000000 ≤ b.instant). absurd (never_that_late keyed le at sound m (tasks_small keyed le tasks) b early short c.0 far)) r.3,
        c.2,
        early,
        short,
      )
  goes_where n k (Running a) (Held b x y) i r =
      let c = undecided_stands keyed le at sound m a r.2 i.0 i.2 in
      let l : b.instant ≤ n + k = omega (arith, c.1, i.1, r.3, r.4.later) in (
        record {
          within = l;
          fixed = agreed_now keyed le at sound m r.1 b c.0 r.4 x y r.5;
          waits = λ u lt. still_running keyed le at sound m r.1 c.0 u (omega (arith, r.4.later));
          stops = λ _. tt;
        },
        set_now keyed le at sound m r.1 b c.0 r.4,
      )
  goes_where n k (Running a) (Missed b j t) i q =
      let r = q.0 in
      let c = undecided_stands keyed le at sound m a r.2 i.0 i.2 in
      let l : b.instant ≤ n + k = omega (arith, c.1, i.1, r.3, r.4.later) in
      let f = missed_now keyed le at sound m r.1 b c.0 r.4 j r.5 in (
        record {
          within = l;
          fixed = subst (λ u. Theory.Fixes plan (plain plan m) b.instant (Theory.Missed j u)) (sym q.1) f;
          waits = λ u lt. still_running keyed le at sound m r.1 c.0 u (omega (arith, r.4.later));
          stops = λ _. tt;
        },
        set_now keyed le at sound m r.1 b c.0 r.4,
      )
  goes_where n k (Held a x y) b i r = subst (Where (n + k)) (sym r) (longer n k a.instant (Theory.Holds x y) tt i.0, i.1)
  goes_where n k (Missed a j t) b i r = subst (Where (n + k)) (sym r) (longer n k a.instant (Theory.Missed j t) tt i.0, i.1)

  -- a fresh trial stands at the beginning
  pub fresh_where : (a : Trial) → Fresh at m a → Where 0 (Running a)
  fresh_where a f =
      let t = fresh_stands keyed le at sound m a f in
      (t.0, f.instant_is, t.1, f.early, f.short)

  runs_where : (a : Mode) → Where 0 a → {n : ℕ} {b : Mode} → GivenRuns plan a n b → Where n b
  runs_where a i none = i
  runs_where a i (more {n} {b} {c} k r g) = goes_where n k b c (runs_where a i r) g

  pub since_where : (n : ℕ) (a : Mode) → SinceStart plan at m n a → Where n a
  since_where n a s = runs_where (Running s.trial) (fresh_where s.trial s.fresh) s.runs

  pub where_started : (n : ℕ) (a : Mode) → Where n a → is_started a ≡ true
  where_started n Open i = absurd i
  where_started n (Running a) i = refl
  where_started n (Held a x y) i = refl
  where_started n (Missed a j t) i = refl

  settled : (n : ℕ) (a : Mode) → Where n a → (s : ℕ) × Settles plan m n s (meaning (verdict_of a)) × LastSet plan m s (set_of a)
  settled n Open i = absurd i
  settled n (Running a) i =
      (a.instant, record { within = omega (arith, i.1); fixed = still_running keyed le at sound m a i.0 a.instant (omega arith); waits = λ u l. still_running keyed le at sound m a i.0 u (omega arith); stops = λ l. omega (arith, i.1) }, i.2)
  settled n (Held a x y) i = (a.instant, i.0, i.1)
  settled n (Missed a j t) i = (a.instant, i.0, i.1)

  where_judged : (n : ℕ) (a : Mode) → Where n a → Judged plan m n (verdict_of a)
  where_judged n a i =
      let t = settled n a i in
      record {
        instant = t.0;
        settles = t.1;
        promises = settled_verdicts_promise plan sound m n t.0 (meaning (verdict_of a)) t.1;
      }

  pub where_only : (n : ℕ) (a : Mode) → Where n a → OnlyVerdict plan m n (verdict_of a)
  where_only n a i =
      let t = settled n a i in
      record {
        judged = where_judged n a i;
        no_other = λ s w q. ((one_settled_verdict plan sound m n).1 s t.0 w (meaning (verdict_of a)) q t.1).1;
      }

  pub since_only : (n : ℕ) (a : Mode) → SinceStart plan at m n a → OnlyVerdict plan m n (verdict_of a)
  since_only n a s = where_only n a (since_where n a s)

  -- where the order is total and transitive, the count of the running set is that of the jobs that ran
  module _ (total : (a b : K) → (le a b ≡ true) ⊎ (le b a ≡ true)) (trans : (a b c : K) → le a b ≡ true → le b c ≡ true → le a c ≡ true) where
    pub where_shown : (n : ℕ) (a : Mode) → Where n a → (word count : ℕ) → word ≡ set_of a → count ≡ ones word → SetShown plan m n word count
    where_shown n a i word count e c =
        let t = settled n a i in
        let last : LastSet plan m t.0 word = subst (LastSet plan m t.0) (sym e) t.2 in
        let ran : (u : ℕ) → t.0 ≡ u + 1 → count ≡ count_below 32 (has_cpu plan m u (config plan (plain plan m) u)) = λ u q. c ∙ (ap ones (last.some u q) ∙ word_ones (has_cpu plan m u (config plan (plain plan m) u)) 32) in
        record {
          instant = t.0;
          verdict = meaning (verdict_of a);
          settles = t.1;
          last = last;
          counted = c;
          ran = ran;
          busy = λ u q. ran u q ∙ at_most_m_run plan (plan_ranked keyed le total trans at) m u (config plan (plain plan m) u);
        }

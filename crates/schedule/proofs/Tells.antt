-- What the verdicts tell of the endless schedule.
use Rattle.std.proofs.Common.{◌≡◌, ℕ, suc, ◌<◌, ◌≤◌, sym, refl, subst, inl, inr, ⊎_elim, suc-le-suc, arith}
use Rattle.std.proofs.lemmas.Bool.{cases_lt, cases_order}
use Rattle.schedule.specs.Plan.{Plan, Sound, Way, plain, Lighter, whole_time}
use Rattle.schedule.specs.Schedule.{NeverMisses, boundary}
use Rattle.schedule.specs.Verdict.{Verdict, Missed, Holds, Running, Fixes}
use Rattle.schedule.specs.Judgement.{Decided, Settles}
use Rattle.schedule.specs.Claims.{SettledVerdictsPromise, OneSettledVerdict}
use Rattle.schedule.proofs.Firsts.{First, first}
use Rattle.schedule.proofs.Grows.{plain_lighter, some_boundaries_agree}
use Rattle.schedule.proofs.Repeats.{no_miss_lasts}
use Rattle.schedule.proofs.Sustains.{sustainability}
use Rattle.schedule.proofs.Verdicts.{boundary_mono, one_verdict}

-- a verdict that holds is kept by every lighter way on as many CPUs or more ..
pub holding_lasts : (p : Plan) → Sound p → (m s a b : ℕ) → Fixes p (plain p m) s (Holds a b) → (w : Way) → Lighter p w → m ≤ w.cpus → NeverMisses p w
holding_lasts p ok m s a b v w lighter more =
    let (k, f, _, e, l) = v.1 in
    sustainability p m (no_miss_lasts p ok m k f.agree (λ i t hi h. v.0 i t hi (omega arith))) w lighter more

-- .. and the wait for a verdict ends
pub wait_ends : (p : Plan) → Sound p → (m s u : ℕ) → boundary p (suc (whole_time p)) ≤ s → ¬ Fixes p (plain p m) s (Running u)
wait_ends p ok m s u h v =
    let (k, l, a) = some_boundaries_agree p ok m in
    v.1 k (omega (arith, boundary_mono p (suc k) (suc (whole_time p)) (suc-le-suc l))) a

pub settled_verdicts_promise : SettledVerdictsPromise
settled_verdicts_promise p ok m n s (Missed i t) st =
    record {
      in_time = λ _. tt;
      never = λ h. absurd h;
      only = λ _ nm. nm i t st.fixed.0.task st.fixed.0.misses;
      lasting = λ h. absurd h;
    }
settled_verdicts_promise p ok m n s (Holds a b) st =
    let f = holding_lasts p ok m s a b st.fixed in
    record { in_time = λ _. tt; never = λ _. f (plain p m) (plain_lighter p m) (omega arith); only = λ _ _. tt; lasting = λ _. f }
settled_verdicts_promise p ok m n s (Running t) st =
    record {
      in_time = λ l. ⊎_elim (λ (lt : s < n). st.stops lt) (λ (ge : n ≤ s). wait_ends p ok m s t (omega arith) st.fixed) (cases_lt s n);
      never = λ h. absurd h;
      only = λ h. absurd h;
      lasting = λ h. absurd h;
    }

module _ (p : Plan) (ok : Sound p) (m : ℕ) where
  -- the verdict of u is not "running"
  Decides : ℕ → Type 0
  Decides u = (v : Verdict) × Fixes p (plain p m) u v × Decided v

  decides_test : (u : ℕ) → Dec (Decides u)
  unfolding Decides
  decides_test u = let (v, f) = (one_verdict p ok (plain p m) u).0 in go v f
    where
      go : (v : Verdict) → Fixes p (plain p m) u v → Dec (Decides u)
      go (Missed i t) f = yes (Missed i t, f, tt)
      go (Holds a b) f = yes (Holds a b, f, tt)
      go (Running t) f = no (λ q. subst Decided ((one_verdict p ok (plain p m) u).1 q.0 (Running t) q.1 f) q.2)

  waits : (u : ℕ) → ¬ Decides u → Fixes p (plain p m) u (Running u)
  unfolding Decides
  waits u h = let (v, f) = (one_verdict p ok (plain p m) u).0 in go v f
    where
      go : (v : Verdict) → Fixes p (plain p m) u v → Fixes p (plain p m) u (Running u)
      go (Missed i t) f = absurd (h (Missed i t, f, tt))
      go (Holds a b) f = absurd (h (Holds a b, f, tt))
      go (Running t) f = (f.0, f.1, refl)

  settles : (n : ℕ) → (s : ℕ) × (v : Verdict) × Settles p m n s v
  unfolding Decides
  settles n = go (first Decides decides_test n)
    where
      go : First Decides n → (s : ℕ) × (v : Verdict) × Settles p m n s v
      go (inl f) =
          let (v, fixed, d) = f.2 in
          (f.0, v, record { within = omega (arith, f.1); fixed = fixed; waits = λ u l. waits u (f.3 u l); stops = λ _. d })
      go (inr none) =
          let (v, fixed) = (one_verdict p ok (plain p m) n).0 in
          (n, v, record { within = omega arith; fixed = fixed; waits = λ u l. waits u (none u l); stops = λ l. absurd (omega arith) })

  not_before : (n s u : ℕ) (v w : Verdict) → Settles p m n s v → Settles p m n u w → s < u → ⊥
  not_before n s u v w a b l =
      let e : v ≡ Running s = (one_verdict p ok (plain p m) s).1 v (Running s) a.fixed (b.waits s l) in
      subst Decided e (a.stops (omega (arith, b.within)))

  one_settled : (n s u : ℕ) (v w : Verdict) → Settles p m n s v → Settles p m n u w → (s ≡ u) × (v ≡ w)
  one_settled n s u v w a b =
      ⊎_elim
      (λ (e : s ≡ u). (e, (one_verdict p ok (plain p m) s).1 v w a.fixed (subst (λ x. Fixes p (plain p m) x w) (sym e) b.fixed)))
      (⊎_elim (λ (l : s < u). absurd (not_before n s u v w a b l)) (λ (l : u < s). absurd (not_before n u s w v b a l)))
      (cases_order s u)

pub one_settled_verdict : OneSettledVerdict
one_settled_verdict p ok m n = (settles p ok m n, one_settled p ok m n)

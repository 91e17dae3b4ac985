-- There is one verdict after s slots, and no other.
use Rattle.std.proofs.Common.{◌≡◌, ℕ, suc, ◌<◌, ◌≤◌, true, sym, refl, ap, ◌∙◌, ap₂, inl, inr, ⊎_elim, mul-le-mul_right, mul-le-mul_left, arith}
use mathlib.Core.Bool.{Bool-discrete}
use native.Mathlib.Decide.{ℕ_discrete, dec_lt}
use Rattle.std.proofs.lemmas.Bool.{cases_lt, cases_order}
use Rattle.schedule.specs.Plan.{Plan, Sound, Way}
use Rattle.schedule.specs.Hyperperiod.{hyperperiod}
use Rattle.schedule.specs.Schedule.{left, config, deadline_at, Misses, boundary, Agree}
use Rattle.schedule.specs.Verdict.{FirstMiss, FirstAgreement, NoMissBy, Verdict, Missed, Holds, Running, Fixes}
use Rattle.schedule.specs.Claims.{OneVerdict}
use Rattle.schedule.proofs.Firsts.{both, First, first, all_below}
use Rattle.schedule.proofs.Hyperperiods.{hyperperiod_positive}

pub boundary_mono : (p : Plan) (j k : ℕ) → j ≤ k → boundary p j ≤ boundary p k
boundary_mono p j k h = omega (arith, mul-le-mul_right (hyperperiod p) h)

pub boundary_past : (p : Plan) → Sound p → (k : ℕ) → k < boundary p (suc k)
boundary_past p ok k = let pos : 1 ≤ hyperperiod p = hyperperiod_positive p ok in omega (arith, mul-le-mul_left (suc k) pos)

module _ (p : Plan) (w : Way) where
  misses_test : (t i : ℕ) → Dec (Misses p w i t)
  misses_test t i = both (Bool-discrete (deadline_at p i t) true) (dec_lt 0 (left p w t i))

  agree_test : (k : ℕ) → Dec (Agree p w k)
  agree_test k = all_below (λ i. config p w (boundary p k) i ≡ config p w (boundary p (suc k)) i) (λ i. ℕ_discrete _ _) p.tasks

  SomeMiss : ℕ → Type 0
  SomeMiss t = (i : ℕ) × (i < p.tasks) × Misses p w i t

  some_miss_test : (t : ℕ) → Dec (SomeMiss t)
  unfolding SomeMiss
  some_miss_test t = go (first (λ i. Misses p w i t) (misses_test t) p.tasks)
    where
      go : First (λ i. Misses p w i t) p.tasks → Dec (SomeMiss t)
      go (inl f) = yes (f.0, f.1, f.2)
      go (inr none) = no (λ q. none q.0 q.1 q.2)

  verdict : Sound p → (s : ℕ) → (v : Verdict) × Fixes p w s v
  unfolding SomeMiss
  verdict ok s = go (first SomeMiss some_miss_test (suc s))
    where
      quiet : NoMissBy p w s → First (Agree p w) s → (v : Verdict) × Fixes p w s v
      quiet none (inl f) =
          ⊎_elim
          (λ (late : s < boundary p (suc f.0)).
          (Running s, (none, (λ k h a. ⊎_elim (λ (b : k < f.0). f.3 k b a) (λ (g : f.0 ≤ k). omega (arith, boundary_mono p (suc f.0) (suc k) (omega arith))) (cases_lt k f.0)), refl)))
          (λ (by_now : boundary p (suc f.0) ≤ s).
          (Holds (boundary p f.0) (boundary p (suc f.0)), (none, (f.0, record { agree = f.2; none_earlier = f.3 }, refl, refl, by_now))))
          (cases_lt s (boundary p (suc f.0)))
      quiet none (inr never) = (Running s, (none, (λ k h a. never k (omega (arith, boundary_past p ok k)) a), refl))

      at : (t : ℕ) → t ≤ s → ((j u : ℕ) → j < p.tasks → u < t → ¬ Misses p w j u) → SomeMiss t → First (λ i. Misses p w i t) p.tasks → (v : Verdict) × Fixes p w s v
      at t h none some (inl f) = (Missed f.0 t, (record { task = f.1; misses = f.2; none_earlier = none; none_lower = f.3 }, h))
      at t h none some (inr never) = absurd (never some.0 some.1 some.2)

      go : First SomeMiss (suc s) → (v : Verdict) × Fixes p w s v
      go (inl f) = at f.0 (omega (arith, f.1)) (λ j u hj l miss. f.3 u l (j, hj, miss)) f.2 (first (λ i. Misses p w i f.0) (misses_test f.0) p.tasks)
      go (inr none) = let calm : NoMissBy p w s = λ i t hi h miss. none t (omega arith) (i, hi, miss) in quiet calm (first (Agree p w) agree_test s)

  same_miss : (i t j u : ℕ) → FirstMiss p w i t → FirstMiss p w j u → Missed i t ≡ Missed j u
  same_miss i t j u a b = ap₂ Missed task instant
    where
      instant : t ≡ u
      instant =
          ⊎_elim
          (λ (e : t ≡ u). e)
          (⊎_elim (λ (l : t < u). absurd (b.none_earlier i t a.task l a.misses)) (λ (l : u < t). absurd (a.none_earlier j u b.task l b.misses)))
          (cases_order t u)

      task : i ≡ j
      task =
          ⊎_elim
          (λ (e : i ≡ j). e)
          (⊎_elim (λ (l : i < j). absurd (b.none_lower i l (rw instant at a.misses))) (λ (l : j < i). absurd (a.none_lower j l (rw instant b.misses))))
          (cases_order i j)

  same_agreement : (j k : ℕ) → FirstAgreement p w j → FirstAgreement p w k → j ≡ k
  same_agreement j k a b =
      ⊎_elim
      (λ (e : j ≡ k). e)
      (⊎_elim (λ (l : j < k). absurd (b.none_earlier j l a.agree)) (λ (l : k < j). absurd (a.none_earlier k l b.agree)))
      (cases_order j k)

  not_both : (s a b r : ℕ) → Fixes p w s (Holds a b) → Fixes p w s (Running r) → ⊥
  not_both s a b r h q = let (k, f, ea, eb, l) = h.1 in q.1 k (rw eb at l) f.agree

  one : (s : ℕ) (u v : Verdict) → Fixes p w s u → Fixes p w s v → u ≡ v
  one s (Missed i t) (Missed j u) a b = same_miss i t j u a.0 b.0
  one s (Missed i t) (Holds x y) a b = absurd (b.0 i t a.0.task a.1 a.0.misses)
  one s (Missed i t) (Running r) a b = absurd (b.0 i t a.0.task a.1 a.0.misses)
  one s (Holds x y) (Missed i t) a b = absurd (a.0 i t b.0.task b.1 b.0.misses)
  one s (Holds x y) (Holds x' y') a b =
      let (j, f, ex, ey, _) = a.1 in
      let (k, g, ex', ey', _) = b.1 in
      let e : j ≡ k = same_agreement j k f g in
      ap₂ Holds (ex ∙ (ap (boundary p) e ∙ sym ex')) (ey ∙ (ap (λ k. boundary p (suc k)) e ∙ sym ey'))
  one s (Holds x y) (Running r) a b = absurd (not_both s x y r a b)
  one s (Running r) (Missed i t) a b = absurd (a.0 i t b.0.task b.1 b.0.misses)
  one s (Running r) (Holds x y) a b = absurd (not_both s x y r b a)
  one s (Running q) (Running r) a b = ap Running (a.2 ∙ sym b.2)

pub one_verdict : OneVerdict
one_verdict p ok w s = (verdict p w ok s, one p w s)

-- From two boundaries that agree on, the plain schedule repeats.
use Rattle.std.proofs.Common.{◌≡◌, ℕ, zero, suc, ◌+◌, ◌-◌, ◌<◌, ◌≤◌, sym, ⊎_elim, add-zero, le_antisymm, arith}
use Rattle.std.proofs.lemmas.Bool.{cases_lt}
use Rattle.schedule.specs.Plan.{Plan, HasTask, Sound, plain}
use Rattle.schedule.specs.Hyperperiod.{last_offset, hyperperiod}
use Rattle.schedule.specs.Schedule.{left, config, Misses, boundary, Agree}
use Rattle.schedule.specs.Verdict.{NoMissBy}
use Rattle.schedule.specs.Claims.{Repetition, NoMissLasts}
use Rattle.schedule.proofs.Hyperperiods.{offset_small, hyperperiod_positive, hyperperiod_whole}
use Rattle.schedule.proofs.Clock.{release_back, deadline_again, deadline_back}
use Rattle.schedule.proofs.Bounds.{left_bounded}
use Rattle.schedule.proofs.Order.{less_stays_less_over_a_slot, less_stays_less_at_an_instant}
use Rattle.schedule.proofs.Grows.{plain_lighter, next_boundary, config_grows, same_age}

module _ (p : Plan) (ok : Sound p) (m : ℕ) where
  -- what rules 1 and 2 make of equal remaining times, a hyperperiod apart
  opens_same : (t i : ℕ) → i < p.tasks → last_offset p ≤ t → left p (plain p m) t i ≡ left p (plain p m) (t + hyperperiod p) i → config p (plain p m) t i ≡ config p (plain p m) (t + hyperperiod p) i
  opens_same t i hi h e =
      let b = left_bounded p (plain p m) (plain_lighter p m) (t + hyperperiod p) i hi in
      let back : config p (plain p m) (t + hyperperiod p) i ≤ config p (plain p m) t i =
      less_stays_less_at_an_instant p (plain p m) (plain p m) i (t + hyperperiod p) t (left p (plain p m) (t + hyperperiod p) i) (left p (plain p m) t i)
      (λ k a. (k, release_back p i (hyperperiod p) (hyperperiod_whole p ok i (hi, k)) t (omega (arith, offset_small p i (hi, k))) a))
      (omega arith)
      (λ d l. deadline_again p i (hyperperiod p) (hyperperiod_whole p ok i (hi, b.kept l)) t d)
      b.small
      (omega arith) in
      le_antisymm (config_grows p ok m t i hi (omega arith)) back

  -- what a slot makes of equal configurations, a hyperperiod apart
  slots_same : (t : ℕ) → last_offset p ≤ t → ((i : ℕ) → i < p.tasks → config p (plain p m) t i ≡ config p (plain p m) (t + hyperperiod p) i)
      → (i : ℕ) → i < p.tasks → left p (plain p m) (suc t) i ≡ left p (plain p m) (suc t + hyperperiod p) i
  unfolding left
  slots_same t h same i hi =
      let e : suc t + hyperperiod p ≡ suc (t + hyperperiod p) = omega arith in
      let there = less_stays_less_over_a_slot p m m t (t + hyperperiod p) (config p (plain p m) t) (config p (plain p m) (t + hyperperiod p)) (omega arith) (λ j hj. omega (arith, same j hj)) (same_age p ok m t) i hi in
      let back = less_stays_less_over_a_slot p m m (t + hyperperiod p) t (config p (plain p m) (t + hyperperiod p)) (config p (plain p m) t) (omega arith) (λ j hj. omega (arith, same j hj)) (λ j hj l. sym (same_age p ok m t j hj (omega (arith, same j hj)))) i hi in
      rw e (le_antisymm there back)

  module _ (k : ℕ) (agree : Agree p (plain p m) k) where
    repeats : (d i : ℕ) → i < p.tasks → config p (plain p m) (boundary p k + d) i ≡ config p (plain p m) (boundary p k + d + hyperperiod p) i
    repeats zero i hi = rw (add-zero, ← next_boundary p k) (agree i hi)
    repeats (suc d) i hi =
        let e : boundary p k + suc d ≡ suc (boundary p k + d) = omega arith in
        rw e (opens_same (suc (boundary p k + d)) i hi (omega arith) (slots_same (boundary p k + d) (omega arith) (repeats d) i hi))

    left_repeats : (t i : ℕ) → boundary p k < t → i < p.tasks → left p (plain p m) t i ≡ left p (plain p m) (t + hyperperiod p) i
    left_repeats t i h hi =
        let d : ℕ = t - suc (boundary p k) in
        let e : t ≡ suc (boundary p k + d) = omega arith in
        rw e (slots_same (boundary p k + d) (omega arith) (repeats d) i hi)

    miss_back : (t i : ℕ) → boundary p k < t → i < p.tasks → Misses p (plain p m) i (t + hyperperiod p) → Misses p (plain p m) i t
    miss_back t i h hi miss =
        let b = left_bounded p (plain p m) (plain_lighter p m) (t + hyperperiod p) i hi in
        let here : HasTask p i = (hi, b.kept miss.1) in
        let begun : p.offset i ≤ last_offset p = offset_small p i here in
        (deadline_back p i (hyperperiod p) (hyperperiod_whole p ok i here) t (ok.one_job i here) (omega arith) miss.0, omega (arith, left_repeats t i h hi, miss.1))

    none_ever : NoMissBy p (plain p m) (boundary p (suc k)) → (f t i : ℕ) → t ≤ f → i < p.tasks → ¬ Misses p (plain p m) i t
    none_ever none zero t i h hi = none i t hi (omega arith)
    none_ever none (suc f) t i h hi =
        ⊎_elim
        (λ (late : boundary p (suc k) < t).
        λ miss.
        let u : ℕ = t - hyperperiod p in
        let pos : 0 < hyperperiod p = hyperperiod_positive p ok in
        let e : t ≡ u + hyperperiod p = omega arith in
        none_ever none f u i (omega arith) hi (miss_back u i (omega arith) hi (rw e at miss)))
        (λ (early : t ≤ boundary p (suc k)). none i t hi early)
        (cases_lt (boundary p (suc k)) t)

pub repetition : Repetition
repetition p ok m k agree t i h hi =
    let e : t ≡ boundary p k + (t - boundary p k) = omega arith in
    rw e (sym (repeats p ok m k agree (t - boundary p k) i hi))

pub no_miss_lasts : NoMissLasts
no_miss_lasts p ok m k agree none i t hi = none_ever p ok m k agree none t t i (omega arith) hi

-- One slot makes the same of configurations that agree on every task; and one slot further the schedule is what it says.
use Rattle.std.proofs.Common.{◌≡◌, ℕ, suc, ◌-◌, ◌<◌, cond, ◌&&◌, ltb, refl, ap, ap₂}
use Rattle.schedule.specs.Plan.{Plan, Way}
use Rattle.schedule.specs.Counting.{count_below}
use Rattle.schedule.specs.Schedule.{age, stands_ahead, has_cpu, slot, opened, left, config}
use Rattle.schedule.proofs.Sums.{count_same}

module _ (p : Plan) (m t : ℕ) (c c' : ℕ → ℕ) (same : (i : ℕ) → i < p.tasks → c i ≡ c' i) where
  pub has_cpu_same : (i : ℕ) → i < p.tasks → has_cpu p m t c i ≡ has_cpu p m t c' i
  has_cpu_same i hi =
      let n : count_below p.tasks (stands_ahead p t c i) ≡ count_below p.tasks (stands_ahead p t c' i) = count_same p.tasks (stands_ahead p t c i) (stands_ahead p t c' i) (λ j hj. ap (λ r. ltb 0 r && p.before j (age p j t) i (age p i t)) (same j hj)) in
      ap₂ (λ r u. p.present i && (ltb 0 r && ltb u m)) (same i hi) n

  pub slot_same : (i : ℕ) → i < p.tasks → slot p m t c i ≡ slot p m t c' i
  slot_same i hi = ap₂ (λ b r. cond b (r - 1) r) (has_cpu_same i hi) (same i hi)

module _ (p : Plan) (w : Way) (t i : ℕ) where
  pub left_next : left p w (suc t) i ≡ slot p w.cpus t (config p w t) i
  unfolding left
  left_next = refl

  pub config_next : config p w (suc t) i ≡ opened p w i (suc t) (slot p w.cpus t (config p w t) i)
  unfolding left
  config_next = refl

pub left_first : (p : Plan) (w : Way) (i : ℕ) → left p w 0 i ≡ 0
unfolding left
left_first p w i = refl

-- A lighter way never has more left than the plain one.
use Rattle.std.proofs.Common.{ℕ, zero, suc, ◌<◌, ◌≤◌, refl, arith}
use Rattle.schedule.specs.Plan.{Plan, Way, plain, Lighter}
use Rattle.schedule.specs.Schedule.{left, config}
use Rattle.schedule.specs.Claims.{Sustainability}
use Rattle.schedule.proofs.Bounds.{left_bounded}
use Rattle.schedule.proofs.Order.{less_stays_less_over_a_slot, less_stays_less_at_an_instant}

module _ (p : Plan) (m : ℕ) (w : Way) (ok : Lighter p w) (more : m ≤ w.cpus) where
  config_lighter : (t i : ℕ) → i < p.tasks → left p w t i ≤ left p (plain p m) t i → config p w t i ≤ config p (plain p m) t i
  config_lighter t i hi h =
      less_stays_less_at_an_instant p w (plain p m) i t t (left p w t i) (left p (plain p m) t i)
      (λ k a. (ok.known i hi k, a)) (ok.within i t hi) (λ d l. d) (left_bounded p w ok t i hi).small h

  left_lighter : (t i : ℕ) → i < p.tasks → left p w t i ≤ left p (plain p m) t i
  unfolding left
  left_lighter zero i hi = omega arith
  left_lighter (suc t) i hi =
      less_stays_less_over_a_slot p w.cpus m t t (config p w t) (config p (plain p m) t) more (λ j hj. config_lighter t j hj (left_lighter t j hj)) (λ j hj l. refl) i hi

pub sustainability : Sustainability
sustainability p m never w ok more i t hi miss = never i t hi (miss.0, omega (arith, left_lighter p m w ok more t i hi, miss.1))

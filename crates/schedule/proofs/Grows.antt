-- The plain schedule, a hyperperiod later: nothing is less, and so two neighbouring boundaries agree before long.
use Rattle.std.proofs.Common.{◌≡◌, ℕ, zero, suc, ◌+◌, ◌<◌, ◌≤◌, Bool, true, cond, ◌⊎◌, sym, inl, inr, ⊎_elim, arith}
use Rattle.schedule.specs.Plan.{Plan, Sound, plain, Lighter, whole_time}
use Rattle.schedule.specs.Counting.{sum_below}
use Rattle.schedule.specs.Hyperperiod.{hyperperiod}
use Rattle.schedule.specs.Schedule.{age, left, config, boundary, Agree}
use Rattle.schedule.specs.Claims.{Growth, SomeBoundariesAgree}
use Rattle.schedule.proofs.Sums.{sum_mono, sum_same_or_more}
use Rattle.schedule.proofs.Hyperperiods.{hyperperiod_whole}
use Rattle.schedule.proofs.Clock.{age_again, release_again, deadline_back}
use Rattle.schedule.proofs.Bounds.{left_bounded, config_bounded}
use Rattle.schedule.proofs.Order.{less_stays_less_over_a_slot, less_stays_less_at_an_instant}

pub plain_lighter : (p : Plan) (m : ℕ) → Lighter p (plain p m)
plain_lighter p m = record { known = λ i hi e. e; within = λ i t hi. omega arith }

pub next_boundary : (p : Plan) (k : ℕ) → boundary p (suc k) ≡ boundary p k + hyperperiod p
next_boundary p k = omega arith

module _ (p : Plan) (ok : Sound p) (m : ℕ) where
  pub config_grows : (t i : ℕ) → i < p.tasks → left p (plain p m) t i ≤ left p (plain p m) (t + hyperperiod p) i → config p (plain p m) t i ≤ config p (plain p m) (t + hyperperiod p) i
  config_grows t i hi h =
      let b = left_bounded p (plain p m) (plain_lighter p m) t i hi in
      less_stays_less_at_an_instant p (plain p m) (plain p m) i t (t + hyperperiod p) (left p (plain p m) t i) (left p (plain p m) (t + hyperperiod p) i)
      (λ k a. (k, release_again p i (hyperperiod p) (hyperperiod_whole p ok i (hi, k)) t a))
      (omega arith)
      (λ d l. deadline_back p i (hyperperiod p) (hyperperiod_whole p ok i (hi, b.kept l)) t (ok.one_job i (hi, b.kept l)) (b.begun l) d)
      b.small
      h

  pub same_age : (t j : ℕ) → j < p.tasks → 0 < config p (plain p m) t j → age p j t ≡ age p j (t + hyperperiod p)
  same_age t j hj l =
      let c = config_bounded p (plain p m) (plain_lighter p m) t j hj in
      let b : p.offset j < suc t = c.begun l in
      sym (age_again p j (hyperperiod p) (hyperperiod_whole p ok j (hj, c.kept l)) t (omega arith))

  left_grows : (t i : ℕ) → i < p.tasks → left p (plain p m) t i ≤ left p (plain p m) (t + hyperperiod p) i
  unfolding left
  left_grows zero i hi = omega arith
  left_grows (suc t) i hi =
      let e : suc t + hyperperiod p ≡ suc (t + hyperperiod p) = omega arith in
      rw e (less_stays_less_over_a_slot p m m t (t + hyperperiod p) (config p (plain p m) t) (config p (plain p m) (t + hyperperiod p)) (omega arith) (λ j hj. config_grows t j hj (left_grows t j hj)) (same_age t) i hi)

pub growth : Growth
growth p ok m t i hi = config_grows p ok m t i hi (left_grows p ok m t i hi)

small_share : (b : Bool) (c v : ℕ) → c ≤ v → (0 < c → b ≡ true) → c ≤ cond b v 0
small_share b c v h k = grind arith

module _ (p : Plan) (ok : Sound p) (m : ℕ) where
  total : ℕ → ℕ
  total k = sum_below p.tasks (config p (plain p m) (boundary p k))

  total_small : (k : ℕ) → total k ≤ whole_time p
  unfolding total
  total_small k =
      sum_mono p.tasks (config p (plain p m) (boundary p k)) (λ i. cond (p.present i) (p.time i) 0)
      (λ i l. let c = config_bounded p (plain p m) (plain_lighter p m) (boundary p k) i l in small_share (p.present i) (config p (plain p m) (boundary p k) i) (p.time i) c.small c.kept)

  grown : (k : ℕ) → Agree p (plain p m) k ⊎ (total k < total (suc k))
  unfolding total
  grown k =
      sum_same_or_more p.tasks (config p (plain p m) (boundary p k)) (config p (plain p m) (boundary p (suc k)))
      (λ i l. rw (next_boundary p k) (growth p ok m (boundary p k) i l))

  climb : (j : ℕ) → ((k : ℕ) × (k < j) × Agree p (plain p m) k) ⊎ (j ≤ total j)
  climb zero = inr (omega arith)
  climb (suc j) =
      ⊎_elim
      (λ (found : (k : ℕ) × (k < j) × Agree p (plain p m) k). inl (found.0, omega arith, found.2))
      (λ (high : j ≤ total j).
      ⊎_elim
      (λ (a : Agree p (plain p m) j). inl (j, omega arith, a))
      (λ (more : total j < total (suc j)). inr (omega arith))
      (grown j))
      (climb j)

pub some_boundaries_agree : SomeBoundariesAgree
some_boundaries_agree p ok m =
    ⊎_elim
    (λ (found : (k : ℕ) × (k < suc (whole_time p)) × Agree p (plain p m) k). (found.0, omega arith, found.2))
    (λ (high : suc (whole_time p) ≤ total p ok m (suc (whole_time p))). absurd (omega (arith, total_small p ok m (suc (whole_time p)))))
    (climb p ok m (suc (whole_time p)))

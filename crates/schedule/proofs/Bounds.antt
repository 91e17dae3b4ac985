-- What is left of a job: never more than its task's running time, and nothing before the task's first release.
use Rattle.std.proofs.Common.{◌≡◌, ℕ, zero, suc, ◌-◌, ◌<◌, ◌≤◌, Bool, true, false, cond, ◌&&◌, ◌⊎◌, refl, inl, inr, ⊎_elim, arith}
use Rattle.schedule.specs.Plan.{Plan, Way, Lighter}
use Rattle.schedule.specs.Schedule.{release_at, deadline_at, opened, has_cpu, left, config}
use Rattle.schedule.proofs.Clock.{released}

-- r is left of a job of task i: no more than the running time, and nothing unless the task is kept and its offset is before b
pub record Bounded (p : Plan) (w : Way) (i b r : ℕ) : Type 0 where
  pub small : r ≤ p.time i
  pub begun : 0 < r → p.offset i < b
  pub kept : 0 < r → w.kept i ≡ true

less : (p : Plan) (w : Way) (i b r s : ℕ) → s ≤ r → Bounded p w i b r → Bounded p w i b s
less p w i b r s h x = record { small = omega arith; begun = λ l. x.begun (omega arith); kept = λ l. x.kept (omega arith) }

pub slot_less : (b : Bool) (c : ℕ) → cond b (c - 1) c ≤ c
slot_less true c = omega arith
slot_less false c = omega arith

open_cases : (k a f : Bool) (d r : ℕ) → ((k ≡ true) × (a ≡ true) × (cond (k && a) d (cond f 0 r) ≡ d)) ⊎ (cond (k && a) d (cond f 0 r) ≤ r)
open_cases true true f d r = inl (refl, refl, refl)
open_cases true false true d r = inr (omega arith)
open_cases true false false d r = inr (omega arith)
open_cases false a true d r = inr (omega arith)
open_cases false a false d r = inr (omega arith)

module _ (p : Plan) (w : Way) (ok : Lighter p w) where
  config_bounded' : (t i r : ℕ) → i < p.tasks → Bounded p w i t r → Bounded p w i (suc t) (opened p w i t r)
  config_bounded' t i r hi x =
      ⊎_elim
      (λ (h : (w.kept i ≡ true) × (release_at p i t ≡ true) × (opened p w i t r ≡ w.demand i t)).
      record { small = omega (arith, ok.within i t hi, h.2); begun = λ l. omega (arith, (released p i t h.1).0); kept = λ l. h.0 })
      (λ (h : opened p w i t r ≤ r). record { small = omega (arith, x.small); begun = λ l. omega (arith, x.begun (omega arith)); kept = λ l. x.kept (omega arith) })
      (open_cases (w.kept i) (release_at p i t) (deadline_at p i t) (w.demand i t) r)

  pub left_bounded : (t i : ℕ) → i < p.tasks → Bounded p w i t (left p w t i)
  unfolding left
  left_bounded zero i hi = record { small = omega arith; begun = λ l. omega arith; kept = λ l. absurd (omega arith) }
  left_bounded (suc t) i hi =
      less p w i (suc t) (config p w t i) (left p w (suc t) i) (slot_less (has_cpu p w.cpus t (config p w t) i) (config p w t i)) (config_bounded' t i (left p w t i) hi (left_bounded t i hi))

  pub config_bounded : (t i : ℕ) → i < p.tasks → Bounded p w i (suc t) (config p w t i)
  config_bounded t i hi = config_bounded' t i (left p w t i) hi (left_bounded t i hi)

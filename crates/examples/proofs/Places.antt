-- The places past the last task: nothing is ever left there, so that the first places tell which jobs run.
use Rattle.std.proofs.Common.{◌≡◌, ℕ, zero, suc, ◌-◌, ◌≤◌, false, cond, ◌&&◌, ltb, leb, ap, ◌∙◌}
use Rattle.std.proofs.lemmas.Bool.{and_parts, both_ways}
use Rattle.schedule.specs.Counting.{count_below}
use Rattle.schedule.specs.Plan.{Plan, plain}
use Rattle.schedule.specs.Schedule.{age, release_at, opened, stands_ahead, slot, left, config, Misses}
use Rattle.schedule.proofs.Same.{left_first, left_next}
use Rattle.examples.proofs.Below.{count_front}

-- the first n places of a plan
abbrev pub first_of : Plan → ℕ → Plan
first_of p n =
    record {
      tasks = n;
      present = p.present;
      offset = p.offset;
      time = p.time;
      deadline = p.deadline;
      period = p.period;
      before = p.before;
    }

module _ (p : Plan) (m i t : ℕ) (none : p.present i ≡ false) where
  opened_none : (r : ℕ) → opened p (plain p m) i t r ≡ r
  opened_none r = ap (λ b. cond (b && release_at p i t) (p.time i) (cond (b && (leb (p.deadline i) t && release_at p i (t - p.deadline i))) 0 r)) none

  slot_none : (c : ℕ → ℕ) → slot p m t c i ≡ c i
  slot_none c = ap (λ b. cond (b && (ltb 0 (c i) && ltb (count_below p.tasks (stands_ahead p t c i)) m)) (c i - 1) (c i)) none

pub left_none : (p : Plan) (m i t : ℕ) → p.present i ≡ false → left p (plain p m) t i ≡ 0
left_none p m i zero none = left_first p (plain p m) i
left_none p m i (suc t) none =
    left_next p (plain p m) t i
    ∙ (slot_none p m i t none (config p (plain p m) t)
    ∙ (opened_none p m i t none (left p (plain p m) t i)
    ∙ left_none p m i t none))

pub config_none : (p : Plan) (m i t : ℕ) → p.present i ≡ false → config p (plain p m) t i ≡ 0
config_none p m i t none = opened_none p m i t none (left p (plain p m) t i) ∙ left_none p m i t none

pub misses_none : (p : Plan) (m i t : ℕ) → p.present i ≡ false → ¬ Misses p (plain p m) i t
misses_none p m i t none miss =
    let (here, _) = and_parts (p.present i) (leb (p.deadline i) t && release_at p i (t - p.deadline i)) miss.0 in
    both_ways (p.present i) none here

module _ (p : Plan) (m n t : ℕ) (fits : n ≤ p.tasks) (c : ℕ → ℕ) (idle : (j : ℕ) → n ≤ j → c j ≡ 0) where
  ahead_few : (i : ℕ) → count_below p.tasks (stands_ahead p t c i) ≡ count_below n (stands_ahead p t c i)
  ahead_few i = count_front (stands_ahead p t c i) n p.tasks fits (λ j h. ap (λ r. ltb 0 r && p.before j (age p j t) i (age p i t)) (idle j h))

  pub slot_few : (i : ℕ) → slot p m t c i ≡ slot (first_of p n) m t c i
  slot_few i = ap (λ u. cond (p.present i && (ltb 0 (c i) && ltb u m)) (c i - 1) (c i)) (ahead_few i)

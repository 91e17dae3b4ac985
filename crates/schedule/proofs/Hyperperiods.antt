-- The hyperperiod is the least common multiple of the periods, and the last offset is the largest.
use Rattle.std.proofs.Common.{◌≡◌, ℕ, ◌%◌, ◌<◌, ◌≤◌, true, false, cond, sym, ◌∙◌, subst, ⊎_elim, arith}
use Prim.Native.Nat.{◌∣◌}
use native.Mathlib.Nat.{mod-eq-zero_of_dvd, le_of_dvd, one-dvd}
use Rattle.std.proofs.lemmas.Bool.{cases_Bool, cond-true, cond-false, cond_both}
use Rattle.schedule.specs.Plan.{Plan, HasTask, Sound}
use Rattle.schedule.specs.Hyperperiod.{last_offset, hyperperiod}
use Rattle.schedule.specs.Claims.{HyperperiodIsLeast, LastOffsetIsLargest}
use Rattle.schedule.proofs.Largest.{largest_high, largest_reached}
use Rattle.schedule.proofs.Multiples.{lcm_below_positive, lcm_below_common, lcm_below_divides}

-- a task's period, and 1 where there is no task
turn : Plan → ℕ → ℕ
turn p i = cond (p.present i) (p.period i) 1

-- a task's offset, and 0 where there is no task
start : Plan → ℕ → ℕ
start p i = cond (p.present i) (p.offset i) 0

module _ (p : Plan) where
  turn_of : (i : ℕ) → p.present i ≡ true → turn p i ≡ p.period i
  unfolding turn
  turn_of i e = cond-true (p.present i) (p.period i) 1 e

  start_of : (i : ℕ) → p.present i ≡ true → start p i ≡ p.offset i
  unfolding start
  start_of i e = cond-true (p.present i) (p.offset i) 0 e

  -- where the start is not 0 there is a task
  started : (i : ℕ) → 0 < start p i → p.present i ≡ true
  unfolding start
  started i h =
      ⊎_elim
      (λ (e : p.present i ≡ true). e)
      (λ (e : p.present i ≡ false). absurd (omega (arith, cond-false (p.present i) (p.offset i) 0 e)))
      (cases_Bool (p.present i))

  -- every offset is at most the last
  pub offset_small : (i : ℕ) → HasTask p i → p.offset i ≤ last_offset p
  unfolding start
  offset_small i h = omega (arith, start_of i h.1, largest_high p.tasks (start p) i h.0)

  offset_reached : 0 < last_offset p → (i : ℕ) × HasTask p i × (p.offset i ≡ last_offset p)
  unfolding start
  offset_reached h =
      let (i, l, e) = largest_reached p.tasks (start p) h in
      let on : p.present i ≡ true = started i (omega arith) in
      (i, (l, on), sym (start_of i on) ∙ e)

  module _ (ok : Sound p) where
    turn_positive : (i : ℕ) → i < p.tasks → 0 < turn p i
    unfolding turn
    turn_positive i h =
        cond_both (p.present i) (p.period i) 1 (λ x. 0 < x)
        (λ e. omega (arith, ok.some_time i (h, e), ok.time_fits i (h, e), ok.one_job i (h, e)))
        (λ e. omega arith)

    pub hyperperiod_positive : 0 < hyperperiod p
    unfolding turn
    hyperperiod_positive = lcm_below_positive p.tasks (turn p) turn_positive

    pub period_divides : (i : ℕ) → HasTask p i → p.period i ∣ hyperperiod p
    unfolding turn
    period_divides i h = subst (λ x. x ∣ hyperperiod p) (turn_of i h.1) (lcm_below_common p.tasks (turn p) turn_positive i h.0)

    -- a hyperperiod is a whole number of each task's periods
    pub hyperperiod_whole : (i : ℕ) → HasTask p i → hyperperiod p % p.period i ≡ 0
    hyperperiod_whole i h = mod-eq-zero_of_dvd (p.period i) (period_divides i h)

    hyperperiod_divides : (n : ℕ) → ((i : ℕ) → HasTask p i → p.period i ∣ n) → hyperperiod p ∣ n
    unfolding turn
    hyperperiod_divides n f =
        lcm_below_divides p.tasks (turn p) turn_positive n
        (λ i l. cond_both (p.present i) (p.period i) 1 (λ x. x ∣ n) (λ e. f i (l, e)) (λ e. one-dvd n))

pub hyperperiod_is_least : HyperperiodIsLeast
hyperperiod_is_least p ok =
    record {
      positive = hyperperiod_positive p ok;
      common = period_divides p ok;
      least = λ n pos f. le_of_dvd pos (hyperperiod_divides p ok n f);
    }

pub last_offset_is_largest : LastOffsetIsLargest
last_offset_is_largest p = record { bounds = offset_small p; reached = offset_reached p }

-- The hyperperiod of a table, place by place.
use Rattle.std.proofs.Common.{◌≡◌, ℕ, ◌+◌, ◌-◌, ◌<◌, ◌≤◌, List, length, get_or, Some, None, Option, sym, ap, ◌∙◌, ap₂, arith}
use Rattle.std.proofs.lemmas.List.{get_or_default}
use Rattle.schedule.specs.Hyperperiod.{lcm, lcm_below}
use Rattle.schedule.proofs.Multiples.{lcm_more, lcm_below_upto}
use Rattle.task.specs.declared.task.Task.{Task}
use Rattle.task.specs.Tables.{entry_of, entry_at}
use Rattle.trial.specs.Cycles.{period_or_one}

in_place : (o : Option Task) → 0 < period_or_one (entry_of o)
in_place None = omega arith
in_place (Some t) = omega (arith, t.runs, t.fits, t.constrained)

pub period_positive : (tasks : List (Option Task)) (i : ℕ) → 0 < period_or_one (entry_at tasks i)
period_positive tasks i = in_place (get_or tasks i None)

-- one place more
pub span_more : (tasks : List (Option Task)) (i multiple period : ℕ) (here : Option Task) → i < length tasks
    → multiple ≡ lcm_below i (λ j. period_or_one (entry_at tasks j)) → period ≡ period_or_one (entry_of (get_or tasks i here))
    → lcm multiple period ≡ lcm_below (i + 1) (λ j. period_or_one (entry_at tasks j))
span_more tasks i multiple period here h e f =
    ap₂ lcm e (f ∙ ap (λ o. period_or_one (entry_of o)) (get_or_default tasks i here None h)) ∙ sym (lcm_more i (λ j. period_or_one (entry_at tasks j)))

pub span_upto : (tasks : List (Option Task)) (i : ℕ) → i < 32
    → lcm_below (i + 1) (λ j. period_or_one (entry_at tasks j)) ≤ lcm_below 32 (λ j. period_or_one (entry_at tasks j))
span_upto tasks i h =
    let e : (i + 1) + (31 - i) ≡ 32 = omega arith in
    rw e at (lcm_below_upto (λ j. period_or_one (entry_at tasks j)) (period_positive tasks) (31 - i) (i + 1))

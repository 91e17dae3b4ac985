-- The plan of a table of tasks is sound, since every task keeps its bounds, and its jobs need little time together.
use Rattle.std.proofs.Common.{◌≡◌, ℕ, ◌≤◌, Bool, true, cond, List, get_or, is_some, Some, None, Option, arith}
use Rattle.std.proofs.lemmas.Bool.{false≢true}
use Rattle.schedule.specs.Plan.{Sound, whole_time}
use Rattle.schedule.proofs.Sums.{sum_bounded}
use Rattle.task.specs.declared.entry.Entry.{Entry}
use Rattle.task.specs.declared.task.Task.{Task}
use Rattle.task.specs.Tables.{entry_of, entry_at}
use Rattle.policy.specs.Plans.{plan_of, time_of, deadline_of, period_of}

some_time : (o : Option Task) → is_some (entry_of o) ≡ true → 1 ≤ time_of (entry_of o)
some_time None e = absurd (false≢true e)
some_time (Some t) e = t.runs

time_fits : (o : Option Task) → is_some (entry_of o) ≡ true → time_of (entry_of o) ≤ deadline_of (entry_of o)
time_fits None e = absurd (false≢true e)
time_fits (Some t) e = t.fits

one_job : (o : Option Task) → is_some (entry_of o) ≡ true → deadline_of (entry_of o) ≤ period_of (entry_of o)
one_job None e = absurd (false≢true e)
one_job (Some t) e = t.constrained

small : (o : Option Task) → cond (is_some (entry_of o)) (time_of (entry_of o)) 0 ≤ 60000
small None = omega arith
small (Some t) = omega (arith, t.fits, t.constrained, t.bounded)

module _ {K : Type 0} (keyed : Entry → ℕ → K) (le : K → K → Bool) (tasks : List (Option Task)) where
  pub tasks_sound : Sound (plan_of keyed le (entry_at tasks))
  tasks_sound =
      record {
        some_time = λ i h. some_time (get_or tasks i None) h.1;
        time_fits = λ i h. time_fits (get_or tasks i None) h.1;
        one_job = λ i h. one_job (get_or tasks i None) h.1;
      }

  pub tasks_small : whole_time (plan_of keyed le (entry_at tasks)) ≤ 1920000
  tasks_small = sum_bounded 32 60000 (λ i. cond (is_some (entry_at tasks i)) (time_of (entry_at tasks i)) 0) (λ i l. small (get_or tasks i None))

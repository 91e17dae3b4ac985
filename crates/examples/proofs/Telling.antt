-- What the law tells of the client's answers: its log has one book, which is computed call by call, and a worked example says
-- which verdict the endless schedule of that book's table fixes.
use Rattle.std.proofs.Common.{◌≡◌, ℕ, zero, suc, ◌<◌, ◌≤◌, [], ◌∷◌, ◌++◌, get_or, replicate, Some, None, Ok, Err, Option, Result, sym, refl, ap, subst, inl, ⊎_elim, int_le, arith}
use Rattle.std.proofs.lemmas.Bool.{cases_lt}
use mathlib.Core.Path.{fun_ext}
use Rattle.schedule.specs.Counting.{sum_below}
use Rattle.schedule.specs.Hyperperiod.{gcd_within, lcm_below}
use Rattle.schedule.specs.Plan.{Plan, plain}
use Rattle.schedule.specs.Judgement.{Settles}
use Rattle.schedule.specs.Verdict as Theory
use Rattle.schedule.proofs.Verdicts.{boundary_mono}
use Rattle.task.specs.declared.entry.Entry.{Entry}
use Rattle.task.specs.declared.refusal.Refusal.{Refusal}
use Rattle.task.specs.declared.refusal.Refusal.TheVariants.{AlreadyStarted, NumberTaken}
use Rattle.task.specs.Rules.{Answers, no_tasks, with_entry}
use Rattle.task.specs.Tables.{Obey, table_of}
use Rattle.task.proofs.Obeying.{obey_more}
use Rattle.sheet.specs.Decoding.{Decodes}
use Rattle.sheet.specs.Format.{front, en}
use Rattle.policy.specs.Keys.{time_to_deadline}
use Rattle.policy.specs.Plans.{plan_of}
use Rattle.bench.specs.declared.verdict.Verdict.{Verdict}
use Rattle.bench.specs.declared.verdict.Verdict.TheVariants.{Holds, Missed, Running}
use Rattle.bench.specs.Book.{Book, blank, with_table, when_started, when_run, when_halted, Kept}
use Rattle.bench.specs.Calls.{entering, starting, running_for, asking_verdict, no_calls, and_then}
use Rattle.bench.specs.Law.{plan_in, Right}
use Rattle.bench.specs.Modes.{meaning}
use Rattle.bench.specs.Refusing.{placed}
use Rattle.examples.specs.declared.client.Answered.{Answered}
use Rattle.examples.specs.Policies.{Deadline, entry_in, plan_under}
use Rattle.examples.specs.Rows.{staggered}
use Rattle.examples.specs.Client.{first, second, third, until_load, until_early, all_calls, LawTells}
use Rattle.examples.proofs.Computed.{all_right}

-- the books of the client's log: with the first task, ..
abbrev one_task : Book
one_task = with_table blank (with_entry no_tasks first)

-- .. with the sheet's table, ..
abbrev two_tasks : Book
two_tasks = with_table one_task (table_of (first ∷ second ∷ []))

-- .. in the first trial, ..
abbrev tried : Book
tried = when_run (when_run (when_started two_tasks 2) 10) 6

-- .. with the third task, ..
abbrev three_tasks : Book
three_tasks = with_table (when_halted tried) (with_entry (table_of (first ∷ second ∷ [])) third)

-- .. and in the second trial
abbrev tried_again : Book
tried_again = when_run (when_run (when_started three_tasks 2) 28) 12

obeys : Obey (first ∷ second ∷ [])
obeys = obey_more (first ∷ []) second (obey_more [] first tt refl (omega arith) refl) refl (omega arith) refl

decodes : Decodes (front 2 (first ∷ second ∷ []) ++ en) (Ok (2, table_of (first ∷ second ∷ [])))
decodes = record {
  told = first ∷ second ∷ [];
  sheet = record { some = omega arith; few = omega arith; obey = obeys; is = refl };
  holds = refl;
}

kept_entered : (a : Answered) → Kept (and_then no_calls (entering first) a.entered) one_task
kept_entered a = (blank, refl, refl)

kept_load : (a : Answered) → Kept (until_load a) two_tasks
kept_load a = (one_task, (one_task, kept_entered a, refl), inl (2, table_of (first ∷ second ∷ []), decodes, refl))

kept_ran : (a : Answered) → Kept (and_then (and_then (and_then (until_load a) (starting 2) a.started) (running_for 10) a.ran) (running_for 6) a.ran_on) tried
unfolding sum_below gcd_within lcm_below
kept_ran a = (when_run (when_started two_tasks 2) 10, (when_started two_tasks 2, (two_tasks, kept_load a, refl), refl), refl)

kept_early : (a : Answered) → Kept (until_early a) tried
kept_early a = (tried, kept_ran a, refl)

kept_all : (a : Answered) → Kept (all_calls a) tried_again
unfolding sum_below gcd_within lcm_below
kept_all a = (
  when_run (when_started three_tasks 2) 28,
  (when_started three_tasks 2, (three_tasks, (when_halted tried, (tried, kept_early a, refl), refl), refl), refl),
  refl,
)

-- the book's table is that of the worked example
none_there : (n i : ℕ) → get_or (replicate {A = Option Entry} n None) i None ≡ None
none_there zero i = refl
none_there (suc n) zero = refl
none_there (suc n) (suc i) = none_there n i

staggered_at : (i : ℕ) → placed tried_again.table i ≡ entry_in staggered i
staggered_at zero = refl
staggered_at (suc zero) = refl
staggered_at (suc (suc zero)) = refl
staggered_at (suc (suc (suc i))) = none_there 29 i

-- "holds" at the instant of its second boundary is what a trial of so many slots comes to
holds_settles : (p : Plan) (m a b : ℕ) → Theory.Fixes p (plain p m) b (Theory.Holds a b) → Settles p m b b (Theory.Holds a b)
holds_settles p m a b (calm, (k, agreement, ea, eb, _)) = record {
  within = omega arith;
  fixed = (calm, (k, agreement, ea, eb, omega arith));
  waits =
      λ u l. (
        λ i t h e. calm i t h (omega arith),
        λ j e agree.
            ⊎_elim
            (λ (sooner : j < k). agreement.none_earlier j sooner agree)
            (λ (later : k ≤ j). omega (arith, boundary_mono p (suc k) (suc j) (omega arith)))
            (cases_lt j k),
        refl,
      );
  stops = λ l. tt;
}

settled : Settles (plan_in time_to_deadline int_le tried_again) 2 40 40 (Theory.Holds 28 40)
settled =
    let same : plan_in time_to_deadline int_le tried_again ≡ plan_under Deadline staggered = ap (plan_of time_to_deadline int_le) (fun_ext staggered_at) in
    subst (λ p. Settles p 2 40 40 (Theory.Holds 28 40)) (sym same) (holds_settles (plan_under Deadline staggered) 2 28 40 all_right.1.1.1.1.1.1.0)

means_holds : (v : Verdict) (a b : ℕ) → Theory.Holds a b ≡ meaning v → v ≡ Holds a b
means_holds (Holds c d) a b e = cc
means_holds (Missed i t) a b e = absurd (cc)
means_holds (Running s) a b e = absurd (cc)

refused_so : {U : Type 0} (r : Result U Refusal) (e : Refusal) → Answers (Some e) r → r ≡ Err e
refused_so (Ok u) e h = absurd (cc)
refused_so (Err x) e h = cc

told_verdict : (r : Result Verdict Refusal) → Right time_to_deadline int_le tried_again asking_verdict r → r ≡ Ok (Holds 28 40)
told_verdict (Ok v) h = ap Ok (means_holds v 28 40 (h.1.no_other 40 (Theory.Holds 28 40) settled))
told_verdict (Err e) h = absurd (cc)

pub law_tells : LawTells
law_tells a law =
    let early_on = law.past.0.0.0.0.0 in
    let at_first = early_on.0.0.0.0 in
    record {
      again = refused_so a.again NumberTaken (at_first.0.1 one_task (kept_entered a));
      early = refused_so a.early AlreadyStarted (early_on.1 tried (kept_ran a));
      verdict = told_verdict a.verdict (subst (λ b. Right time_to_deadline int_le b asking_verdict a.verdict) (sym (law.one_book tried_again (kept_all a))) law.right);
    }

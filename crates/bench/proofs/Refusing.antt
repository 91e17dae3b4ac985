-- When a start is refused.
use Rattle.std.proofs.Common.{◌≡◌, ℕ, ◌<◌, ◌≤◌, Bool, true, false, cond, eqb, ltb, is_some, Some, None, Option, refl, ap, ◌∙◌, subst}
use Rattle.std.specs.Option.{ok_or}
use Rattle.std.proofs.lemmas.Bool.{lt-ltb, le-ltb, eq-eqb, ne_eqb}
use Rattle.schedule.specs.Counting.{count_below}
use Rattle.task.specs.declared.entry.Entry.{Entry}
use Rattle.task.specs.declared.refusal.Refusal.{Refusal}
use Rattle.task.specs.declared.refusal.Refusal.TheVariants.{CpusOutOfRange, NoTasks, HyperperiodTooLong}
use Rattle.task.specs.Rules.{outside, cpus_refusal}
use Rattle.trial.specs.Cycles.{table_period}
use Rattle.trial.specs.declared.trial.Trial.{Trial}
use Rattle.trial.specs.Trials.{Starts}
use Rattle.bench.specs.Steps.{start_refusal, Begins}

cpus_good : (b : Bool) (o : Option Refusal) → cond b (Some CpusOutOfRange) None ≡ None → cond b (Some CpusOutOfRange) o ≡ o
cpus_good true o e = absurd (cc)
cpus_good false o e = refl

module _ (at : ℕ → Option Entry) (m : ℕ) (good : cpus_refusal m ≡ None) where
  after_cpus : start_refusal false at m ≡ cond (eqb (count_below 32 (λ i. is_some (at i))) 0) (Some NoTasks) (cond (ltb 10000000 (table_period at)) (Some HyperperiodTooLong) None)
  after_cpus = cpus_good (outside m 8) _ good

  pub no_tasks_refused : count_below 32 (λ i. is_some (at i)) ≡ 0 → start_refusal false at m ≡ Some NoTasks
  no_tasks_refused z = after_cpus ∙ ap (λ b. cond b (Some NoTasks) (cond (ltb 10000000 (table_period at)) (Some HyperperiodTooLong) None)) (eq-eqb _ 0 z)

  module _ (some : count_below 32 (λ i. is_some (at i)) ≡ 0 → ⊥) where
    after_count : start_refusal false at m ≡ cond (ltb 10000000 (table_period at)) (Some HyperperiodTooLong) None
    after_count = after_cpus ∙ ap (λ b. cond b (Some NoTasks) (cond (ltb 10000000 (table_period at)) (Some HyperperiodTooLong) None)) (ne_eqb _ 0 some)

    pub too_long_refused : 10000000 < table_period at → start_refusal false at m ≡ Some HyperperiodTooLong
    too_long_refused h = after_count ∙ ap (λ b. cond b (Some HyperperiodTooLong) None) (lt-ltb 10000000 (table_period at) h)

    start_taken : table_period at ≤ 10000000 → start_refusal false at m ≡ None
    start_taken h = after_count ∙ ap (λ b. cond b (Some HyperperiodTooLong) None) (le-ltb 10000000 (table_period at) h)

    -- the trial, or the refusal
    pub began : (o : Option Trial) → Starts at m o → Begins false at m (ok_or o HyperperiodTooLong)
    began None h = too_long_refused h
    began (Some a) f = let S : ℕ → Type 0 = λ n. n ≤ 10000000 in (start_taken (subst S f.span_is f.short), f)

use Rattle.std.proofs.Common.{◌≡◌, List, is_some, Option, sym, ap, ◌∙◌, subst}
use Rattle.schedule.specs.Counting.{count_below}
use Rattle.task.specs.declared.task.Task.{Task}
use Rattle.task.specs.Tables.{entry_at}
use Rattle.trial.specs.Trials.{Starts}
use Rattle.bench.specs.Modes.{is_started}
use Rattle.bench.specs.Steps.{start_refusal}
use Rattle.bench.proofs.Refusing.{no_tasks_refused, began}
use Rattle.bench.proofs.bench.Bench.begin.Goals as goal

pub returns-then-count-eq0 : goal.returns-then-count-eq0
returns-then-count-eq0 g c =
    let ts = c.args.self.now.table.tasks in
    let none : count_below 32 (λ i. is_some (entry_at ts i)) ≡ 0 = ap (λ (xs : List (Option Task)). count_below 32 (λ i. is_some (entry_at xs i))) (sym c.tasks.ensures) ∙ (sym c.count.ensures ∙ c.if-count-eq0.true) in
    ap (λ o. start_refusal (is_started o) (entry_at ts) c.args.cpus) c.in_ok-check_open.ensures ∙ no_tasks_refused (entry_at ts) c.args.cpus c.in_ok-check_cpus.ensures none

pub returns : goal.returns
returns g c =
    let ts = c.args.self.now.table.tasks in
    let some : count_below 32 (λ i. is_some (entry_at ts i)) ≡ 0 → ⊥ = λ z. c.if-count-eq0.false (c.count.ensures ∙ (ap (λ (xs : List (Option Task)). count_below 32 (λ i. is_some (entry_at xs i))) c.tasks.ensures ∙ z)) in
    let S : List (Option Task) → Type 0 = λ xs. Starts (entry_at xs) c.args.cpus c.start.result in
    let b = began (entry_at ts) c.args.cpus c.in_ok-check_cpus.ensures some c.start.result (subst S c.tasks-2.ensures c.start.ensures) in
    rw (c.in_ok-check_open.ensures, c.ok_or.ensures.value) b

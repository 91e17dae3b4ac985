use Rattle.std.proofs.Common.{◌≡◌, ℕ, ◌+◌, ◌<◌, List, Option, ap, ◌∙◌, subst, arith}
use Rattle.std.proofs.lemmas.Bool.{both_ways}
use Rattle.task.specs.declared.task.Task.{Task}
use Rattle.task.specs.Tables.{entry_at}
use Rattle.policy.specs.Dispatch.{is_active}
use Rattle.policy.specs.Members.{has}
use Rattle.policy.specs.Sets.{left_of, word_of}
use Rattle.policy.proofs.Words.{none_has}
use Rattle.trial.specs.Places.{is_due, Calm, opens, misses}
use Rattle.trial.proofs.Slotwise.{passes_of, opened_is, missed_is, calm_is, none_due}
use Rattle.trial.proofs.Watching.{calm_before}
use Rattle.trial.proofs.trial.Trial.pass.Goals as goal

pub returns-then-self-watch : goal.returns-then-self-watch
returns-then-self-watch g c =
    let p = g.P.Policy in
    let key = p.keyed c.args.policy.now in
    let le = p.precedes c.args.policy.now in
    let w = c.args.watch.now in
    let at = entry_at w.tasks.now in
    let a = c.args.self.now in
    let b = c.tick.new.self in
    let t = c.tick.ensures.ticked in
    let kept = c.tick.ensures.watch in
    let s = c.requires.watched in
    let calm : (i : ℕ) → i < 32 → Calm (at i) (a.instant + 1) = λ i h. w.calm_is i h (a.instant + 1) (omega (arith, s.begun)) (omega (arith, t.later, kept.calm_kept, c.if-self-watch.true, calm_before w i h)) in
    record {
      passes = passes_of key le at a b t b.left c.requires.instant (calm_is key le at a b.left t.left_is calm) 0 (none_due key le at a b.left t.left_is calm);
      missed = λ i h on. absurd (both_ways (has 0 i) (none_has i) on);
      watched =
          record {
            tasks_are = kept.tasks_kept;
            begun = omega (arith, s.begun, t.later, kept.since_kept);
            not_over = c.if-self-watch.true;
            active_is = c.tick.ensures.active;
            few_are = λ h. omega (arith, c.tick.ensures.few.0 h, t.cpus_kept);
            are_few = λ h. c.tick.ensures.few.1 (omega (arith, h, t.cpus_kept));
          };
    }

pub returns : goal.returns
returns g c =
    let p = g.P.Policy in
    let key = p.keyed c.args.policy.now in
    let le = p.precedes c.args.policy.now in
    let w = c.args.watch.now in
    let at = entry_at w.tasks.now in
    let a = c.args.self.now in
    let b = c.tick.new.self in
    let t = c.tick.ensures.ticked in
    let kept = c.tick.ensures.watch in
    let s = c.requires.watched in
    let end = c.arrive-due.new.left in
    let was = c.tick.new.watch in
    let now : was.calm ≡ a.instant + 1 = omega (arith, s.not_over, t.later, kept.calm_kept, c.if-self-watch.false) in
    let D : List (Option Task) → Type 0 = λ ts. c.arrive-due.result ≡ word_of (λ i. is_due (entry_at ts i) (a.instant + 1)) 32 in
    let due : D w.tasks.now = subst D kept.tasks_kept (c.arrive-due.ensures.due ∙ ap (λ u. word_of (λ i. is_due (entry_at was.tasks.now i) u) 32) now) in
    let O : ℕ → List (Option Task) → Type 0 = λ i ts. left_of end i ≡ opens (entry_at ts i) (a.instant + 1) (left_of b.left i) in
    let opened : (i : ℕ) → i < 32 → O i w.tasks.now = λ i h. subst (O i) kept.tasks_kept (c.arrive-due.ensures.left i h ∙ ap (λ u. opens (entry_at was.tasks.now i) u (left_of b.left i)) now) in
    let on = c.arrive-due.new.self in
    let M : ℕ → List (Option Task) → Type 0 = λ i ts. has on.calendar.missed i ≡ misses (entry_at ts i) (a.instant + 1) (left_of b.left i) in
    let late : (i : ℕ) → i < 32 → M i w.tasks.now = λ i h. subst (M i) kept.tasks_kept (c.arrive-due.ensures.missed i h ∙ ap (λ u. misses (entry_at was.tasks.now i) u (left_of b.left i)) now) in
    let A : ℕ → List (Option Task) → Type 0 = λ i ts. has on.calendar.active i ≡ is_active (entry_at ts) end i in
    record {
      passes = passes_of key le at a b t end c.requires.instant (opened_is key le at a b.left t.left_is end opened) c.arrive-due.result due;
      missed = λ i h _. late i h ∙ missed_is key le at a b.left t.left_is i h;
      watched =
          record {
            tasks_are = c.arrive-due.ensures.tasks ∙ kept.tasks_kept;
            begun = omega (arith, c.arrive-due.ensures.since, now, t.later);
            not_over = omega (arith, c.arrive-due.ensures.since, now, t.later, on.onward);
            active_is = λ i h. subst (A i) kept.tasks_kept (c.arrive-due.ensures.active i h);
            few_are = c.fits-watch.ensures.0;
            are_few = c.fits-watch.ensures.1;
          };
    }

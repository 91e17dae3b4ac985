use Rattle.std.specs.Prelude.{Decides}
use Rattle.std.proofs.Common.{◌≡◌, ℕ, ◌<◌, ◌≤◌, not, ◌&&◌, sym, refl, ap, ap₂, ◌∙◌, subst, arith}
use lib.Count.{ones}
use Rattle.task.specs.Tables.{entry_at}
use Rattle.policy.specs.Members.{has}
use Rattle.policy.specs.Sets.{left_of}
use Rattle.policy.proofs.Words.{word_has, without_has}
use Rattle.trial.specs.declared.watch.Watch.{Watch}
use Rattle.trial.specs.Slots.{worked, is_finished, SameInstants}
use Rattle.trial.proofs.Finishing.{active_after, same_active}
use Rattle.trial.proofs.Slotwise.{some_left, worked_is}
use Rattle.trial.proofs.trial.Trial.tick.Goals as goal
use Rattle.trial.proofs.trial.Trial.tick.Goals.{then-work, else-work}

pub work-requires : goal.work-requires
work-requires g c =
    let p = g.P.Policy in
    some_left (p.keyed c.args.policy.now) (p.precedes c.args.policy.now) (entry_at c.args.watch.now.tasks.now) c.args.self.now c.choose-self.result c.choose-self.ensures

pub returns : goal.returns
returns g c =
    let p = g.P.Policy in
    let key = p.keyed c.args.policy.now in
    let le = p.precedes c.args.policy.now in
    let a = c.args.self.now in
    let v = c.args.watch.now in
    let at = entry_at v.tasks.now in
    let s = c.requires.watched in
    let ran = c.choose-self.result in
    let end = c.work.new.left in
    let lost : (i : ℕ) → i < 32 → left_of end i ≡ worked ran a.left i = c.work.ensures.left in
    record {
      ticked =
          record {
            cpus_kept = refl;
            start_kept = refl;
            span_kept = refl;
            later = refl;
            ran_is = c.choose-self.ensures;
            left_is = worked_is key le at a ran end c.choose-self.ensures lost;
            boundaries = record { next_kept = refl; last_kept = refl; saved_kept = refl };
          };
      watch =
          elim c.if-work.branch [
            | then-work y ↦ subst (SameInstants v) (sym y.watch-is) (record { tasks_kept = refl; released_kept = refl; since_kept = refl; calm_kept = refl })
            | else-work y ↦ subst (SameInstants v) (sym y.watch-is) (record { tasks_kept = refl; released_kept = refl; since_kept = refl; calm_kept = refl })
          ];
      active =
          λ i h.
          elim c.if-work.branch [
            | then-work y ↦
                ap (λ (x : Watch). has x.calendar.active i) y.watch-is
                ∙ (without_has v.calendar.active y.finished_jobs.result i (omega arith) h
                ∙ (ap₂ (λ x z. x && not z) (s.active_is i h) (word_has (is_finished ran end) y.finished_jobs.result i y.finished_jobs.ensures h)
                ∙ active_after ran a.left end lost at i h))
            | else-work y ↦
                ap (λ (x : Watch). has x.calendar.active i) y.watch-is
                ∙ (s.active_is i h ∙ sym (same_active ran a.left end lost (c.work.ensures.none_finished y.if-work.false) (some_left key le at a ran c.choose-self.ensures) at i h))
          ];
      few =
          elim c.if-work.branch [
            | then-work y ↦
                let F : Watch → Type 0 = λ x. Decides x.few (ones x.calendar.active ≤ a.cpus) in
                subst F (sym y.watch-is) y.fits-watch.ensures
            | else-work y ↦
                let F : Watch → Type 0 = λ x. Decides x.few (ones x.calendar.active ≤ a.cpus) in
                subst F (sym y.watch-is) (s.few_are, s.are_few)
          ];
    }

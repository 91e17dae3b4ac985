-- Where the active jobs are few all of them run, and else the slot tells.
use Rattle.std.proofs.Common.{ap, ◌∙◌, arith}
use lib.Count.{ones}
use Rattle.task.specs.Tables.{entry_at}
use Rattle.policy.specs.Dispatch.{is_active}
use Rattle.policy.specs.Members.{has}
use Rattle.policy.proofs.Running.{few_run}
use Rattle.policy.proofs.Since.{asking_at, known_at}
use Rattle.policy.proofs.Words.{word_is}
use Rattle.trial.proofs.Watching.{latest_before}
use Rattle.trial.proofs.trial.Trial.choose.Goals as goal

pub returns-then-watch : goal.returns-then-watch
returns-then-watch g c =
    let p = g.P.Policy in
    let a = c.args.self.now in
    let w = c.args.watch.now in
    let s = c.requires in
    let set = c.active.result in
    let set_is = word_is (is_active (entry_at w.tasks.now) a.left) set (omega (arith, c.active.type_inv)) (λ i h. ap (λ n. has n i) c.active.ensures ∙ s.active_is i h) in
    few_run (p.keyed c.args.policy.now) (p.precedes c.args.policy.now) (entry_at w.tasks.now) a.left a.cpus a.instant set set_is (let few = s.few_are c.if-watch.true in omega (arith, ap ones c.active.ensures))

pub invariant_of-slot : goal.invariant_of-slot
invariant_of-slot g c =
    let a = c.args.self.now in
    let w = c.args.watch.now in
    let s = c.requires in
    let set = c.active-2.result in
    let set_is = word_is (is_active (entry_at w.tasks.now) a.left) set (omega (arith, c.active-2.type_inv)) (λ i h. ap (λ n. has n i) c.active-2.ensures ∙ s.active_is i h) in
    record { asking = asking_at (entry_at w.tasks.now) a.left set w.calendar.released a.instant set_is (λ i h. latest_before w i a.instant h s.begun s.not_over) }

pub returns : goal.returns
returns g c =
    let a = c.args.self.now in
    let w = c.args.watch.now in
    let s = c.requires in
    let set = c.active-2.result in
    let set_is = word_is (is_active (entry_at w.tasks.now) a.left) set (omega (arith, c.active-2.type_inv)) (λ i h. ap (λ n. has n i) c.active-2.ensures ∙ s.active_is i h) in
    c.running.ensures a.left (known_at (entry_at w.tasks.now) a.left set w.calendar.released a.instant set_is (λ i h. latest_before w i a.instant h s.begun s.not_over))

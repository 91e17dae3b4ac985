-- Each member in turn is compared with the last so far, and counts.
use Rattle.std.proofs.Common.{◌≡◌, ℕ, true, false, is_some, Some, sym, ap, ◌∙◌, subst, arith, rules}
use Rattle.std.proofs.lemmas.Bool.{both_ways}
use borrow.Author.Rules.{get_or_read}
use Rattle.schedule.specs.Counting.{count_below}
use Rattle.task.specs.Tables.{entry_at}
use Rattle.policy.specs.declared.choosing.Job.{Job}
use Rattle.policy.specs.Members.{has}
use Rattle.policy.specs.Slots.{keys_of, LastTo}
use Rattle.policy.proofs.Kept.{none_yet, one_later}
use Rattle.policy.proofs.Rising.{first, along_from, turn}
use Rattle.policy.proofs.Stopping.{count_start, count_hit, count_most}
use Rattle.policy.proofs.slot.Slot.last_of.Goals as goal

pub loop-i-init : goal.loop-i-init
loop-i-init g c =
    let p = g.P.Policy in
    let laws = g.met.P.Policy in
    let s = c.args.self.now in
    let rest = c.into_iter-i-iterator.result in
    let (along, n) = along_from c.args.set 0 rest (omega arith) (c.into_iter-i-iterator.ensures.into_iter_gives ∙ c.members_of-i-items.ensures) in
    (tt, tt, along, none_yet p.keyed p.precedes s (laws.total s.policy.now) (laws.transitive s.policy.now) c.args.set rest n, count_start c.args.set (has c.args.set) (λ k off. off) rest n)

pub overflow_add-count : goal.overflow_add-count
overflow_add-count g c =
    let t = turn c.args.set c.loop-i.i-iterator c.next.new.self c.in-Some.i c.loop-i.invariant.2 c.in-Some.ensures.steps in
    let so_far : c.loop-i.count ≡ count_below c.in-Some.i (has c.args.set) = c.loop-i.invariant.4 ∙ ap (λ r. count_below (first r) (has c.args.set)) c.in-Some.ensures.steps in
    omega (arith, t.within, count_most c.in-Some.i (has c.args.set))

pub loop-i-preserved-in-Some-tasks : goal.loop-i-preserved-in-Some-tasks
loop-i-preserved-in-Some-tasks g c =
    let p = g.P.Policy in
    let laws = g.met.P.Policy in
    let s = c.args.self.now in
    let i = c.in-Some.i in
    let rest = c.loop-i.i-iterator in
    let more = c.next.new.self in
    let steps = c.in-Some.ensures.steps in
    let t = turn c.args.set rest more i c.loop-i.invariant.2 steps in
    let on : has s.jobs i ≡ true = c.requires i t.within t.member in
    let key : keys_of p.keyed s i ≡ Some c.job_of.result.key = search (rules, get_or_read) in
    let L : ℕ → Type 0 = λ n. LastTo p.keyed p.precedes s c.args.set n c.loop-i.last in
    let J : Job g.row.P-Key.Denot → Type 0 = λ j. LastTo p.keyed p.precedes s c.args.set (first more) (Some j) in (
      tt,
      tt,
      t.along,
      subst J (sym c.later.ensures) (one_later p.keyed p.precedes s (laws.total s.policy.now) (laws.transitive s.policy.now) c.args.set i more t c.loop-i.last c.job_of.result c.job_of.ensures.place key (subst L (ap first steps) c.loop-i.invariant.3)),
      count_hit c.args.set (has c.args.set) (λ k off. off) rest i more steps t c.loop-i.count c.loop-i.invariant.4 (sym t.member),
    )

-- a member is a task's
pub loop-i-preserved : goal.loop-i-preserved
loop-i-preserved g c =
    let s = c.args.self.now in
    let i = c.in-Some.i in
    let t = turn c.args.set c.loop-i.i-iterator c.next.new.self i c.loop-i.invariant.2 c.in-Some.ensures.steps in
    let none : is_some (entry_at s.tasks.now i) ≡ false = search (rules, get_or_read) in
    absurd (both_ways (is_some (entry_at s.tasks.now i)) none (s.asking i t.within (c.requires i t.within t.member)).0)

pub returns : goal.returns
returns g c =
    let p = g.P.Policy in
    let end : first c.loop-i.i-iterator ≡ 32 = ap first c.in-None.ensures.steps.0 in
    let L : ℕ → Type 0 = λ n. LastTo p.keyed p.precedes c.args.self.now c.args.set n c.loop-i.last in
    record { last = subst L end c.loop-i.invariant.3; count = c.loop-i.invariant.4 ∙ ap (λ n. count_below n (has c.args.set)) end }

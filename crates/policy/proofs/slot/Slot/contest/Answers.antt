-- Each job of the rest in turn is admitted, and at the end the set is that of the jobs that run.
use Rattle.std.proofs.Common.{◌≡◌, ◌+◌, ℕ, Some, None, sym, ap, ◌∙◌, subst, arith}
use Rattle.policy.specs.Members.{has, Within}
use Rattle.policy.specs.Slots.{RunOfMet, RunSoFar}
use Rattle.policy.proofs.Kept.{run_on_met, all_run_met, still_below, key_there}
use Rattle.policy.proofs.Rising.{first, Along, along_from, turn, next_past}
use Rattle.policy.proofs.slot.Slot.contest.Goals as goal

pub loop-i-init : goal.loop-i-init
loop-i-init g c =
    let p = g.P.Policy in
    let laws = g.met.P.Policy in
    let s = c.args.self.now in
    let begun = c.begin-contest.result in
    let members = c.into_iter-i-iterator.result in
    let (along, n) = along_from begun.rest 0 members (omega arith) (c.into_iter-i-iterator.ensures.into_iter_gives ∙ c.members_of-i-items.ensures) in
    let met = run_on_met p.keyed p.precedes s (laws.total s.policy.now) (laws.transitive s.policy.now) 0 (first members) begun (omega arith) n.skipped c.begin-contest.ensures.so_far in (
      tt,
      tt,
      c.begin-contest.ensures.rest,
      along,
      met,
      λ none. let all = c.begin-contest.ensures.none none in (
        still_below p.keyed p.precedes s (laws.total s.policy.now) (laws.transitive s.policy.now) 0 (first members) begun (omega arith) n.within all.0 met,
        all.1,
      ),
    )

-- a member of the rest is admitted
pub admit-contest-requires-clause-rest : goal.admit-contest-requires-clause-rest
admit-contest-requires-clause-rest g c =
    let rest = c.loop-i.contest.rest in
    let t = turn rest c.loop-i.i-iterator c.next.new.self c.in-Some.i c.loop-i.invariant.3 c.in-Some.ensures.steps in
    ap (has rest) c.in-Some-job.ensures.0 ∙ t.member

pub loop-i-preserved-in-Some-job : goal.loop-i-preserved-in-Some-job
loop-i-preserved-in-Some-job g c =
    let p = g.P.Policy in
    let laws = g.met.P.Policy in
    let s = c.args.self.now in
    let i = c.in-Some.i in
    let more = c.next.new.self in
    let rest = c.loop-i.contest.rest in
    let after = c.admit-contest.result in
    let same : after.rest ≡ rest = c.admit-contest.ensures.rest in
    let t = turn rest c.loop-i.i-iterator more i c.loop-i.invariant.3 c.in-Some.ensures.steps in
    let at : first c.loop-i.i-iterator ≡ i = ap first c.in-Some.ensures.steps in
    let W : ℕ → Type 0 = λ r. Within r s.jobs in
    let V : ℕ → Type 0 = λ r. Within s.jobs r in
    let A : ℕ → Type 0 = λ r. Along r more in
    let R : ℕ → Type 0 = λ n. RunOfMet p.keyed p.precedes s (n + 1) after in
    let S : ℕ → Type 0 = λ n. RunSoFar p.keyed p.precedes s (n + 1) after in
    let B : ℕ → Type 0 = λ n. RunSoFar p.keyed p.precedes s n c.loop-i.contest in
    let up = next_past rest (i + 1) (first more) (omega (arith, t.within)) t.next in
    let met = run_on_met p.keyed p.precedes s (laws.total s.policy.now) (laws.transitive s.policy.now) (i + 1) (first more) after up (λ k l m. ap (λ r. has r k) same ∙ t.next.skipped k l m) (subst R c.in-Some-job.ensures.0 c.admit-contest.ensures.so_far) in (
      tt,
      tt,
      subst W (sym same) c.loop-i.invariant.2,
      subst A (sym same) t.along,
      met,
      λ none. let all = c.loop-i.invariant.5 none in (
        still_below p.keyed p.precedes s (laws.total s.policy.now) (laws.transitive s.policy.now) (i + 1) (first more) after up t.next.within
            (subst S c.in-Some-job.ensures.0 (c.admit-contest.ensures.in_turn (subst B (at ∙ sym c.in-Some-job.ensures.0) all.0))) met,
        subst V (sym same) all.1,
      ),
    )

-- a member is a job
pub loop-i-preserved : goal.loop-i-preserved
loop-i-preserved g c =
    let p = g.P.Policy in
    let s = c.args.self.now in
    let i = c.in-Some.i in
    let t = turn c.loop-i.contest.rest c.loop-i.i-iterator c.next.new.self i c.loop-i.invariant.3 c.in-Some.ensures.steps in
    let (k, e) = key_there p.keyed p.precedes s i t.within (c.loop-i.invariant.2 i t.within t.member) in
    let none : None ≡ Some k = sym c.in_default.ensures ∙ e in
    absurd (cc)

pub returns : goal.returns
returns g c =
    let p = g.P.Policy in
    let laws = g.met.P.Policy in
    let s = c.args.self.now in
    let end : first c.loop-i.i-iterator ≡ 32 = ap first c.in-None.ensures.steps.0 in
    let R : ℕ → Type 0 = λ n. RunOfMet p.keyed p.precedes s n c.loop-i.contest in
    all_run_met p.keyed p.precedes s (laws.total s.policy.now) (laws.transitive s.policy.now) c.loop-i.contest (subst R end c.loop-i.invariant.4)

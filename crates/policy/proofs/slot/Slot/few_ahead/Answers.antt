-- Each job that stands before counts, and a count that has reached the number of CPUs stays there.
use Rattle.std.proofs.Common.{◌≡◌, ℕ, Bool, true, false, ◌∙◌, rules}
use borrow.Author.Rules.{get_or_read}
use Rattle.policy.specs.Dispatch.{ahead_of}
use Rattle.policy.specs.Members.{has}
use Rattle.policy.specs.Slots.{keys_of}
use Rattle.policy.proofs.Ahead.{begins, inside, one_before, one_behind, enough, all_counted}
use Rattle.policy.proofs.slot.Slot.few_ahead.Goals as goal
use Rattle.policy.proofs.slot.Slot.few_ahead.Goals.{in_default-via-in-None-1, in_default-via-in-Some-tasks+else-stands_before}

pub loop-j-init : goal.loop-j-init
loop-j-init g c =
    let p = g.P.Policy in
    let s = c.args.self.now in
    let job = c.args.job.now in
    let Ahead : ℕ → Bool = λ j. ahead_of (p.precedes s.policy.now) (keys_of p.keyed s j) j job.key job.place in
    let start = c.into_iter-j-iterator.ensures.into_iter_gives ∙ c.members_of-j-items.ensures in
    (tt, tt, begins c.args.rest Ahead c.args.known c.requires.known c.into_iter-j-iterator.result start)

pub loop-j-preserved-in-loop-j : goal.loop-j-preserved-in-loop-j
loop-j-preserved-in-loop-j g c =
    let p = g.P.Policy in
    let s = c.args.self.now in
    let job = c.args.job.now in
    let j = c.in-Some.j in
    let Ahead : ℕ → Bool = λ j. ahead_of (p.precedes s.policy.now) (keys_of p.keyed s j) j job.key job.place in
    let t = inside c.args.rest Ahead c.loop-j.ahead j c.loop-j.j-iterator c.next.new.self c.in-Some.ensures.steps c.loop-j.invariant.2 in
    let on : has s.jobs j ≡ true = c.requires.rest j t.within t.member in
    let ahead : true ≡ ahead_of (p.precedes s.policy.now) (keys_of p.keyed s j) j job.key job.place = search (rules, get_or_read) in
    (tt, tt, one_before c.args.rest Ahead c.loop-j.ahead j c.loop-j.j-iterator c.next.new.self c.in-Some.ensures.steps c.loop-j.invariant.2 ahead)

pub loop-j-preserved : goal.loop-j-preserved
loop-j-preserved g c =
    let p = g.P.Policy in
    let s = c.args.self.now in
    let job = c.args.job.now in
    let j = c.in-Some.j in
    let Ahead : ℕ → Bool = λ j. ahead_of (p.precedes s.policy.now) (keys_of p.keyed s j) j job.key job.place in
    let t = inside c.args.rest Ahead c.loop-j.ahead j c.loop-j.j-iterator c.next.new.self c.in-Some.ensures.steps c.loop-j.invariant.2 in
    let on : has s.jobs j ≡ true = c.requires.rest j t.within t.member in
    let behind : false ≡ ahead_of (p.precedes s.policy.now) (keys_of p.keyed s j) j job.key job.place =
    elim c.in_default.branch [
      | in_default-via-in-None-1 w ↦ search (rules, get_or_read)
      | in_default-via-in-Some-tasks+else-stands_before w ↦ search (rules, get_or_read)
    ] in
    (tt, tt, one_behind c.args.rest Ahead c.loop-j.ahead j c.loop-j.j-iterator c.next.new.self c.in-Some.ensures.steps c.loop-j.invariant.2 behind)

pub returns-then-ahead-self : goal.returns-then-ahead-self
returns-then-ahead-self g c =
    let p = g.P.Policy in
    let s = c.args.self.now in
    let job = c.args.job.now in
    let Ahead : ℕ → Bool = λ j. ahead_of (p.precedes s.policy.now) (keys_of p.keyed s j) j job.key job.place in
    let l = c.loop-j in
    enough c.args.rest Ahead l.ahead c.in-Some.j l.j-iterator c.next.new.self c.in-Some.ensures.steps l.invariant.2 s.cpus c.if-ahead-self.true

pub returns : goal.returns
returns g c =
    let p = g.P.Policy in
    let s = c.args.self.now in
    let job = c.args.job.now in
    let Ahead : ℕ → Bool = λ j. ahead_of (p.precedes s.policy.now) (keys_of p.keyed s j) j job.key job.place in
    let l = c.loop-j in
    all_counted c.args.rest Ahead l.ahead s.cpus l.j-iterator c.in-None.ensures.steps.0 l.invariant.2

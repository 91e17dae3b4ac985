use Rattle.std.proofs.Common.{◌≡◌, ℕ, ◌≢◌, ◌+◌, ◌-◌, ◌<◌, false, cond, List, ◌∷◌, subst, set, sym, refl, ap, ◌∙◌, arith}
use Rattle.policy.specs.Members.{has}
use Rattle.policy.specs.Sets.{left_of}
use Rattle.policy.proofs.Each.{EachTo, each_start, each_more}
use Rattle.policy.proofs.Rising.{first, Along, Turn, along_from, turn, next_past}
use Rattle.trial.specs.Slots.{worked}
use Rattle.trial.proofs.Giving.{Given, given_more, given_on}
use Rattle.trial.proofs.working.work.Goals as goal

module _ (ran : ℕ) (was : List ℕ) where
  -- a job that does not run stays as it is
  idle_kept : (k : ℕ) → has ran k ≡ false → worked ran was k ≡ left_of was k
  idle_kept k off = ap (λ b. cond b (left_of was k - 1) (left_of was k)) off

  abbrev Worked : ℕ → ℕ → Type 0
  Worked k r = r ≡ worked ran was k

  abbrev Some : ℕ → Type 0
  Some k = 0 < worked ran was k

  -- a turn of the loop, at i
  module _ (rest more : List ℕ) (i : ℕ) (left : rest ≡ i ∷ more) (along : Along ran rest) (xs : List ℕ) (g : Given Worked was xs (first rest)) where
    now : Turn ran i more
    now = turn ran rest more i along left

    here : Given Worked was xs i
    here = let G : List ℕ → Type 0 = λ r. Given Worked was xs (first r) in subst G left g

    is : left_of xs i - 1 ≡ worked ran was i
    is = ap (λ l. l - 1) (here.2 i (omega arith)) ∙ sym (ap (λ b. cond b (left_of was i - 1) (left_of was i)) now.member)

    goes_on : Given Worked was (set xs i (left_of xs i - 1)) (first more)
    goes_on = given_on Worked was (set xs i (left_of xs i - 1)) (i + 1) (first more) (next_past ran (i + 1) (first more) (omega (arith, now.within)) now.next) (given_more Worked was xs i (left_of xs i - 1) now.within here is) (λ k l h. sym (idle_kept k (now.next.skipped k l h)))

    some_left : EachTo ran Some (first rest) → left_of xs i - 1 ≢ 0 → EachTo ran Some (first more)
    some_left h ne = each_more ran Some i more now (subst (EachTo ran Some) (ap first left) h) (omega (arith, is))

pub loop-i-init : goal.loop-i-init
loop-i-init c =
    let a = c.args in
    let was = a.left.now in
    let rest = c.into_iter-i-iterator.result in
    let (along, n) = along_from a.ran 0 rest (omega arith) (c.into_iter-i-iterator.ensures.into_iter_gives ∙ c.members_of-i-items.ensures) in (
      tt,
      tt,
      along,
      given_on (Worked a.ran was) was was 0 (first rest) (omega arith) (c.told-left, λ k h. absurd (omega arith), λ k h. refl) (λ k l h. sym (idle_kept a.ran was k (n.skipped k l h))),
      λ _. each_start a.ran (Some a.ran was) (first rest) n,
    )

pub overflow_sub-rest : goal.overflow_sub-rest
overflow_sub-rest c =
    let a = c.args in
    let l = c.loop-i in
    let left = c.in-Some.ensures.steps in
    let t = turn a.ran l.i-iterator c.next.new.self c.in-Some.i l.invariant.2 left in
    let h = here a.ran a.left.now l.i-iterator c.next.new.self c.in-Some.i left l.invariant.2 l.left l.invariant.3 in
    omega (arith, h.2 c.in-Some.i (omega arith), c.requires c.in-Some.i t.within t.member)

pub loop-i-preserved-then-rest-eq0 : goal.loop-i-preserved-then-rest-eq0
loop-i-preserved-then-rest-eq0 c =
    let l = c.loop-i in
    let left = c.in-Some.ensures.steps in
    let along = (turn c.args.ran l.i-iterator c.next.new.self c.in-Some.i l.invariant.2 left).along in
    (tt, tt, along, goes_on c.args.ran c.args.left.now l.i-iterator c.next.new.self c.in-Some.i left l.invariant.2 l.left l.invariant.3, λ h. absurd (cc))

pub loop-i-preserved : goal.loop-i-preserved
loop-i-preserved c =
    let l = c.loop-i in
    let left = c.in-Some.ensures.steps in
    let along = (turn c.args.ran l.i-iterator c.next.new.self c.in-Some.i l.invariant.2 left).along in (
      tt,
      tt,
      along,
      goes_on c.args.ran c.args.left.now l.i-iterator c.next.new.self c.in-Some.i left l.invariant.2 l.left l.invariant.3,
      λ h. some_left c.args.ran c.args.left.now l.i-iterator c.next.new.self c.in-Some.i left l.invariant.2 l.left l.invariant.3 (l.invariant.4 h) c.if-rest-eq0.false,
    )

pub returns-clause-none_finished : goal.returns-clause-none_finished
returns-clause-none_finished c h i l on =
    let end : first c.loop-i.i-iterator ≡ 32 = ap first c.in-None.ensures.steps.0 in
    let some : 0 < worked c.args.ran c.args.left.now i = c.loop-i.invariant.4 h i (omega arith) on in
    omega (arith, c.loop-i.invariant.3.1 i (omega arith))

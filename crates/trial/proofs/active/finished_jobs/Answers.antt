use Rattle.std.proofs.Common.{◌≡◌, ◌≢◌, ℕ, ◌+◌, ◌*◌, ◌%◌, ◌^◌, false, ◌&&◌, bit_or, eqb, List, ◌∷◌, sym, ap, ◌∙◌, arith}
use Rattle.std.proofs.lemmas.Bool.{and_from, eq-eqb, ne_eqb}
use Rattle.policy.specs.Members.{has}
use Rattle.policy.specs.Sets.{left_of, word_of}
use Rattle.policy.proofs.Rising.{first, Along, Turn, along_from, turn, next_past}
use Rattle.policy.proofs.Words.{word_none, word_set, word_keep, word_on}
use Rattle.trial.specs.Slots.{is_finished}
use Rattle.trial.proofs.active.finished_jobs.Goals as goal

module _ (ran : ℕ) (left : List ℕ) where
  idle : (k : ℕ) → has ran k ≡ false → is_finished ran left k ≡ false
  idle k off = ap (λ b. b && eqb (left_of left k) 0) off

  -- a turn of the loop, at i
  module _ (rest more : List ℕ) (i : ℕ) (next : rest ≡ i ∷ more) (along : Along ran rest) (w : ℕ) (d : w ≡ word_of (is_finished ran left) (first rest)) where
    now : Turn ran i more
    now = turn ran rest more i along next

    at_i : w ≡ word_of (is_finished ran left) i
    at_i = d ∙ ap (λ r. word_of (is_finished ran left) (first r)) next

    goes_on : (u : ℕ) → u ≡ word_of (is_finished ran left) (i + 1) → u ≡ word_of (is_finished ran left) (first more)
    goes_on u f = word_on (is_finished ran left) (i + 1) (first more) u (next_past ran (i + 1) (first more) (omega (arith, now.within)) now.next) f (λ k l h. idle k (now.next.skipped k l h))

    finishes : left_of left i ≡ 0 → bit_or w ((1 * 2 ^ i) % 2 ^ 32) ≡ word_of (is_finished ran left) (first more)
    finishes z = goes_on _ (word_set (is_finished ran left) i w now.within at_i (and_from (has ran i) (eqb (left_of left i) 0) now.member (eq-eqb (left_of left i) 0 z)))

    runs_on : left_of left i ≢ 0 → w ≡ word_of (is_finished ran left) (first more)
    runs_on nz = goes_on w (word_keep (is_finished ran left) i w at_i (ap (λ b. b && eqb (left_of left i) 0) now.member ∙ ne_eqb (left_of left i) 0 nz))

pub loop-i-init : goal.loop-i-init
loop-i-init c =
    let a = c.args in
    let rest = c.into_iter-i-iterator.result in
    let (along, n) = along_from a.ran 0 rest (omega arith) (c.into_iter-i-iterator.ensures.into_iter_gives ∙ c.members_of-i-items.ensures) in
    (tt, tt, along, word_on (is_finished a.ran a.left.now) 0 (first rest) 0 (omega arith) (sym (word_none (is_finished a.ran a.left.now))) (λ k l h. idle a.ran a.left.now k (n.skipped k l h)))

pub loop-i-preserved-then-left-i-eq0 : goal.loop-i-preserved-then-left-i-eq0
loop-i-preserved-then-left-i-eq0 c =
    let l = c.loop-i in
    let next = c.in-Some.ensures.steps in (
      tt,
      tt,
      (now c.args.ran c.args.left.now l.i-iterator c.next.new.self c.in-Some.i next l.invariant.2 l.set l.invariant.3).along,
      finishes c.args.ran c.args.left.now l.i-iterator c.next.new.self c.in-Some.i next l.invariant.2 l.set l.invariant.3 c.if-left-i-eq0.true,
    )

pub loop-i-preserved : goal.loop-i-preserved
loop-i-preserved c =
    let l = c.loop-i in
    let next = c.in-Some.ensures.steps in (
      tt,
      tt,
      (now c.args.ran c.args.left.now l.i-iterator c.next.new.self c.in-Some.i next l.invariant.2 l.set l.invariant.3).along,
      runs_on c.args.ran c.args.left.now l.i-iterator c.next.new.self c.in-Some.i next l.invariant.2 l.set l.invariant.3 c.if-left-i-eq0.false,
    )

pub returns : goal.returns
returns c =
    let end : first c.loop-i.i-iterator ≡ 32 = ap first c.in-None.ensures.steps.0 in
    c.loop-i.invariant.3 ∙ ap (word_of (is_finished c.args.ran c.args.left.now)) end

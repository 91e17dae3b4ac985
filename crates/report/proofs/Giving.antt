-- Run after run: what a bench is given, and that a decided bench stays.
use Rattle.std.proofs.Common.{◌≡◌, ℕ, ◌+◌, ◌-◌, ◌≤◌, Bool, true, false, refl, ap, ◌∙◌, subst, arith}
use Rattle.std.proofs.lemmas.Bool.{both_ways}
use Rattle.schedule.specs.Plan.{Plan}
use Rattle.task.specs.declared.entry.Entry.{Entry}
use Rattle.bench.specs.declared.mode.Mode.{Mode}
use Rattle.bench.specs.declared.mode.Mode.TheVariants.{Open, Running, Held, Missed}
use Rattle.bench.specs.Judged.{GivenRuns, more}
use Rattle.bench.specs.Modes.{verdict_of, is_decided}
use Rattle.bench.specs.Steps.{View, with_mode, plan_for, GoesOn}

-- a run leaves no bench open
pub stays_started : (p : Plan) (a b : Mode) (k : ℕ) → GoesOn p a k b → b ≡ Open → ⊥
stays_started p Open b k g e = g
stays_started p (Running a) Open k g e = g
stays_started p (Running a) (Running b) k g e = cc
stays_started p (Running a) (Held b x y) k g e = cc
stays_started p (Running a) (Missed b x y) k g e = cc
stays_started p (Held a x y) b k g e = cc
stays_started p (Missed a x y) b k g e = cc

stays : (p : Plan) (b : Mode) (k : ℕ) → is_decided (verdict_of b) ≡ true → GoesOn p b k b
stays p Open k e = absurd (both_ways false refl e)
stays p (Running a) k e = absurd (both_ways false refl e)
stays p (Held a x y) k e = refl
stays p (Missed a x y) k e = refl

-- a decided bench may be given any further slots
pub given_rest : (p : Plan) (a b : Mode) (n all : ℕ) → n ≤ all → is_decided (verdict_of b) ≡ true → GivenRuns p a n b → GivenRuns p a all b
given_rest p a b n all h e r =
    let q : n + (all - n) ≡ all = omega arith in
    subst (λ k. GivenRuns p a k b) q (more (all - n) r (stays p b (all - n) e))

module _ {P K : Type 0} (keyed : P → Entry → ℕ → K) (le : P → K → K → Bool) where
  -- the same view but for the mode, through another run
  pub same_but_mode : (v w u : View P) → w ≡ with_mode v w.mode → u ≡ with_mode w u.mode → u ≡ with_mode v u.mode
  same_but_mode v w u e f = f ∙ ap (λ x. with_mode x u.mode) e

  same_plan : (v w : View P) → w ≡ with_mode v w.mode → plan_for keyed le w ≡ plan_for keyed le v
  same_plan v w e = ap (plan_for keyed le) e

  -- one run more
  pub run_more : (v w u : View P) (n k : ℕ) → w ≡ with_mode v w.mode → GivenRuns (plan_for keyed le v) v.mode n w.mode → GoesOn (plan_for keyed le w) w.mode k u.mode → GivenRuns (plan_for keyed le v) v.mode (n + k) u.mode
  run_more v w u n k same given e =
      let G : Plan → Type 0 = λ p. GoesOn p w.mode k u.mode in
      more k given (subst G (same_plan v w same) e)

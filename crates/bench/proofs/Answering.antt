-- What a run answers on a started bench.
use Rattle.std.proofs.Common.{◌≡◌, ℕ, ◌+◌, Bool, Some, Ok, Err, Result, sym, subst}
use Rattle.task.specs.declared.entry.Entry.{Entry}
use Rattle.task.specs.declared.refusal.Refusal.{Refusal}
use Rattle.task.specs.Tables.{entry_at}
use Rattle.bench.specs.declared.mode.Mode.{Mode}
use Rattle.bench.specs.declared.mode.Mode.TheVariants.{Open, Running, Held, Missed}
use Rattle.bench.specs.declared.verdict.Verdict.{Verdict}
use Rattle.bench.specs.Judged.{SinceStart, more, OnlyVerdict, JudgedAnswer}
use Rattle.bench.specs.Modes.{is_started}
use Rattle.bench.specs.Steps.{View, plan_for, RanFor, open_refusal}
use Rattle.bench.proofs.Judging.{Where, since_where, since_only}

module _ {P K : Type 0} (keyed : P → Entry → ℕ → K) (le : P → K → K → Bool) (v : View P) where
  never_open : {A : Type 0} (n : ℕ) (mode : Mode) (m : ℕ) (e : Refusal) → Where (keyed v.policy) (le v.policy) v.tasks m n mode → open_refusal (is_started mode) ≡ Some e → A
  never_open n Open m e i h = absurd i
  never_open n (Running a) m e i h = absurd (cc)
  never_open n (Held a x y) m e i h = absurd (cc)
  never_open n (Missed a x y) m e i h = absurd (cc)

  pub run_judged : (n : ℕ) (r : Result Verdict Refusal) (u : View P) → RanFor keyed le v n r u
      → (m before : ℕ) → SinceStart (plan_for keyed le v) (entry_at v.tasks) m before v.mode → JudgedAnswer (plan_for keyed le v) m (before + n) r
  run_judged n (Ok y) u q m before s =
      subst (OnlyVerdict (plan_for keyed le v) m (before + n)) (sym q.3) (since_only (keyed v.policy) (le v.policy) v.tasks m (before + n) u.mode (record { trial = s.trial; fresh = s.fresh; runs = more n s.runs q.1 }))
  run_judged n (Err e) u q m before s = never_open before v.mode m e (since_where (keyed v.policy) (le v.policy) v.tasks m before v.mode s) q.0

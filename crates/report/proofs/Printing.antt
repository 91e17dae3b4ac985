-- The line of a bench that was prepared and given its runs is the line of its sheet.
use Rattle.std.proofs.Common.{◌≡◌, ℕ, ◌≤◌, Bool, false, List, length, None, Ok, Option, sym, ap, ◌∙◌, subst}
use Rattle.task.specs.declared.entry.Entry.{Entry}
use Rattle.task.specs.Tables.{entry_at, entries}
use Rattle.policy.specs.Plans.{plan_of}
use Rattle.bench.specs.declared.mode.Mode.TheVariants.{Open, Running}
use Rattle.bench.specs.declared.verdict.Verdict.{Verdict}
use Rattle.bench.specs.Judged.{GivenRuns, SinceStart, OnlyVerdict}
use Rattle.bench.specs.Lines.{verdict_line, room_refusal}
use Rattle.bench.specs.Modes.{verdict_of}
use Rattle.bench.specs.Steps.{View, with_mode, plan_for, start_refusal}
use Rattle.sheet.specs.Buffers.{BeginsWith}
use Rattle.report.specs.declared.line.Line.TheVariants.{OfVerdict}
use Rattle.report.specs.Prints.{VerdictOfSheet, Prints}
use Rattle.report.specs.Prepares.{Prepared}
use Rattle.bench.proofs.Placing.{placed_entries}

module _ {P K : Type 0} (keyed : P → Entry → ℕ → K) (le : P → K → K → Bool) (bytes : List ℕ) (v u w : View P) (pr : Prepared bytes v u)
    (runs : (u.mode ≡ Open → ⊥) → GivenRuns (plan_for keyed le u) u.mode 1000000000 w.mode) where
  mode_is : u.mode ≡ Running pr.trial
  mode_is = ap (λ x. x.mode) pr.after

  shut : u.mode ≡ Open → ⊥
  shut e = let q = mode_is in cc

  module _ (policy : P) (policy_is : v.policy ≡ policy) (same : w ≡ with_mode u w.mode)
      (judged : (m n : ℕ) → SinceStart (plan_for keyed le w) (entry_at w.tasks) m n w.mode → OnlyVerdict (plan_for keyed le w) m n (verdict_of w.mode)) where
    since : SinceStart (plan_for keyed le w) (entry_at w.tasks) pr.cpus 1000000000 w.mode
    since =
        let S : View P → Type 0 = λ x. SinceStart (plan_for keyed le x) (entry_at x.tasks) pr.cpus 1000000000 w.mode in
        let s : S (with_mode u w.mode) = record { trial = pr.trial; fresh = pr.fresh; runs = subst (λ a. GivenRuns (plan_for keyed le u) a 1000000000 w.mode) mode_is (runs shut) } in
        subst S (sym same) s

    pub verdict_of_sheet : VerdictOfSheet (keyed policy) (le policy) bytes (verdict_of w.mode)
    verdict_of_sheet =
        let J : View P → Type 0 = λ x. OnlyVerdict (plan_for keyed le x) pr.cpus 1000000000 (verdict_of w.mode) in
        let j : J (with_mode u w.mode) = subst J same (judged pr.cpus 1000000000 since) in
        let whose : u.policy ≡ policy = ap (λ x. x.policy) pr.after ∙ policy_is in
        let Q : P → Type 0 = λ x. OnlyVerdict (plan_of (keyed x) (le x) (entry_at u.tasks)) pr.cpus 1000000000 (verdict_of w.mode) in
        let A : (ℕ → Option Entry) → Type 0 = λ at. OnlyVerdict (plan_of (keyed policy) (le policy) at) pr.cpus 1000000000 (verdict_of w.mode) in
        let B : (ℕ → Option Entry) → Type 0 = λ at. start_refusal false at pr.cpus ≡ None in
        record {
          cpus = pr.cpus;
          places = entries u.tasks;
          decoded = pr.decoded;
          starts = subst B (sym (placed_entries u.tasks)) pr.starts;
          judged = subst A (sym (placed_entries u.tasks)) (subst Q whose j);
        }

-- a verdict's line is what is to be printed
pub verdict_printed : {K : Type 0} (keyed : Entry → ℕ → K) (le : K → K → Bool) (bytes before after : List ℕ) (n : ℕ) (v : Verdict)
    → room_refusal (length before) ≡ None → VerdictOfSheet keyed le bytes v → BeginsWith (verdict_line v) before after n → n ≤ 48 → Prints keyed le bytes before after (Ok (OfVerdict n))
verdict_printed keyed le bytes before after n v room sheet text short = (room, (v, sheet, text, short))

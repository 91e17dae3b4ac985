use Rattle.std.proofs.Common.{◌≡◌, ◌≤◌, leb, MatchResult, subst}
use Rattle.task.specs.declared.refusal.Refusal.{Refusal}
use Rattle.task.specs.declared.refusal.Refusal.TheVariants.{BadThreshold}
use Rattle.policy.specs.declared.heavy.Threshold.{Threshold}
use Rattle.std.proofs.lemmas.Result.{err_from_is_err_and}
use lib.Signed.{le_z}
use Rattle.policy.specs.Keys.{time_to_deadline, heavy_key, heavy_first}
use Rattle.policy.specs.Keys.{rank_of}
use Rattle.report.proofs.Reporting.{fault_alone, judged_again, last_line}
use Rattle.report.proofs.report.write_verdicts.Goals as goal

pub returns-in_err-end : goal.returns-in_err-end
returns-in_err-end c =
    let p = err_from_is_err_and c.from_residual.result c.from_residual.ensures.1 in
    rw (p.1, p.2) (fault_alone time_to_deadline le_z c.args.sheet.now c.args.text.now c.judge_at.new.text c.in_err-end.field-0.0 c.in_err-end.ensures)

pub returns-in_err-end-2 : goal.returns-in_err-end-2
returns-in_err-end-2 c =
    let d = c.in_ok-end.ensures in
    judged_again time_to_deadline le_z c.args.sheet.now d.0 d.1 rank_of leb _ _ _ c.in_err-end-2.field-0.0 c.in_err-end-2.ensures

pub returns-in_err-end-3 : goal.returns-in_err-end-3
returns-in_err-end-3 c =
    let d = c.in_ok-end.ensures in
    let t = c.unwrap-threshold.result in
    judged_again time_to_deadline le_z c.args.sheet.now d.0 d.1 (heavy_key t.a t.b time_to_deadline) (heavy_first le_z) _ _ _ c.in_err-end-3.field-0.0 c.in_err-end-3.ensures

pub returns : goal.returns
returns c =
    let d = c.in_ok-end.ensures in
    let r = c.in_ok-end-2.ensures in
    let t = c.unwrap-threshold.result in
    let is = subst (λ r. MatchResult r (λ (t : Threshold). (t.a ≡ 1) × (t.b ≡ 2)) (λ (e : Refusal). (e ≡ BadThreshold) × (((1 ≤ 2) × (2 ≤ 1000) × (1 ≤ 2)) → ⊥))) c.unwrap-threshold.ensures c.new.ensures in
    last_line c.args.sheet.now t.a t.b is.0 is.1 c.args.text.now _ _ _ _ _ _ _ d r c.in_ok-end-3.ensures c.judge_at-4.result c.judge_at-4.ensures

use Rattle.std.proofs.Common.{◌≡◌, ℕ, Bool, false, Some, Option, sym, ap, ◌∙◌, subst}
use Rattle.std.proofs.lemmas.Result.{err_from_is_err_and}
use Rattle.task.specs.declared.entry.Entry.{Entry}
use Rattle.task.specs.Tables.{entry_at}
use Rattle.bench.specs.Modes.{is_started}
use Rattle.bench.specs.Steps.{IsLoadFault, start_refusal}
use Rattle.report.specs.Prints.{no_sheet, no_start}
use Rattle.bench.proofs.Placing.{placed_entries}
use Rattle.report.proofs.judge.prepare.Goals as goal

pub returns-in_err-cpus : goal.returns-in_err-cpus
returns-in_err-cpus g c =
    let p = err_from_is_err_and c.from_residual.result c.from_residual.ensures.1 in
    let q = c.in_err-cpus.ensures.step in
    let F : Bool → Type 0 = λ b. IsLoadFault b c.args.sheet.now c.in_err-cpus.field-0.0 in
    let d : F false = subst F (ap is_started c.requires) q.0 in
    rw (p.1, p.2) (no_sheet d)

pub returns-in_err-start : goal.returns-in_err-start
returns-in_err-start g c =
    let p = err_from_is_err_and c.from_residual-in_err-start.result c.from_residual-in_err-start.ensures.1 in
    let q = c.in_err-start.ensures in
    let r = c.in_ok-cpus.ensures.step in
    let ts = c.load.new.self.table.tasks in
    let open_now = ap (λ v. is_started v.mode) r.2 in
    let S : (ℕ → Option Entry) → Type 0 = λ at. start_refusal false at c.in_ok-cpus.cpus ≡ Some c.in_err-start.field-0.0 in
    rw (p.1, p.2) (no_start r.1 (subst S (sym (placed_entries ts)) (ap (λ b. start_refusal b (entry_at ts) c.in_ok-cpus.cpus) (sym open_now) ∙ q.0)))

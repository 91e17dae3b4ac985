use Rattle.std.proofs.Common.{◌≡◌, Some, None, vec_items, codes, sym, ap, subst, ◌∙◌}
use Rattle.std.specs.Option.{option_map}
use Rattle.report.specs.Reports.{Report}
use Rattle.judge.specs.Printing.{judged, unreadable}
use Rattle.judge.specs.Spelling.{sheet_of}
use Rattle.judge.proofs.Told.{told}
use Rattle.judge.proofs.lines.write_line.Goals as goal

pub returns-in-Some : goal.returns-in-Some
returns-in-Some g c =
    let line = c.args.line.now in
    let spelled : sheet_of line ≡ Some c.in-Some.sheet.items = sym c.in_ok-sheet.ensures ∙ ap (option_map vec_items) c.in-Some.is in
    let report : Report c.in-Some.sheet.items c.as_slice-in-Some.result.now =
    subst (Report c.in-Some.sheet.items) (sym c.as_slice-in-Some.ensures.value) (subst (λ s. Report s c.report_text.result.items) c.as_slice.ensures.value c.report_text.ensures.text) in
    told line _ _ _ _ (judged spelled report) c.write_text.ensures

pub returns-in-None : goal.returns-in-None
returns-in-None g c =
    let line = c.args.line.now in
    let spelled : sheet_of line ≡ None = sym c.in_ok-sheet.ensures ∙ ap (option_map vec_items) c.in-None.is in
    told line (codes "unreadable\n") _ _ _ (unreadable spelled) c.write_text-in-None.ensures

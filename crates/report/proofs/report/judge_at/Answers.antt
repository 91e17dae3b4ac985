use Rattle.std.proofs.Common.{◌-◌, length, drop, take, Result, subst}
use Rattle.task.specs.declared.refusal.Refusal.{Refusal}
use Rattle.report.specs.declared.line.Line.{Line}
use Rattle.report.specs.Prints.{Prints}
use Rattle.report.proofs.Lining.{verdict_at, fault_at}
use Rattle.report.proofs.report.judge_at.Goals as goal

pub returns-in-OfVerdict : goal.returns-in-OfVerdict
returns-in-OfVerdict g c =
    let key = g.P.Policy.keyed c.args.policy in
    let le = g.P.Policy.precedes c.args.policy in
    let a = c.args.at in
    let xs = c.args.text.now in
    let ys = c.judge.new.line in
    let P : Result Line Refusal → Type 0 = λ r. Prints key le c.args.sheet.now (take (length xs - a) (drop a xs)) ys r in
    verdict_at key le c.args.sheet.now a xs ys c.requires c.judge.auto.line c.in-OfVerdict.length (subst P c.in-OfVerdict.ensures c.judge.ensures)

pub returns-in-OfFault : goal.returns-in-OfFault
returns-in-OfFault g c =
    let key = g.P.Policy.keyed c.args.policy in
    let le = g.P.Policy.precedes c.args.policy in
    let a = c.args.at in
    let xs = c.args.text.now in
    let ys = c.judge.new.line in
    let P : Result Line Refusal → Type 0 = λ r. Prints key le c.args.sheet.now (take (length xs - a) (drop a xs)) ys r in
    fault_at key le c.args.sheet.now a xs ys c.requires c.judge.auto.line c.in-OfFault.length (subst P c.in-OfFault.ensures c.judge.ensures)

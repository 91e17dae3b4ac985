use Rattle.std.proofs.Common.{length, arith, rules}
use Rattle.bench.specs.Modes.{verdict_of}
use Rattle.bench.specs.Steps.{view}
use Rattle.report.proofs.Lining.{has_room}
use Rattle.report.proofs.Printing.{verdict_of_sheet, verdict_printed}
use Rattle.report.proofs.judge.judge.Goals as goal

pub returns : goal.returns
returns g c =
    let key = g.P.Policy.keyed in
    let le = g.P.Policy.precedes in
    let v = view c.new-bench.result in
    let u = view c.prepare.new.bench in
    let w = view c.give_runs.new.bench in
    let q = c.in_ok-length-2.ensures.step in
    verdict_printed (key c.args.policy) (le c.args.policy) c.args.sheet.now c.args.line.now _ _ (verdict_of w.mode) (has_room 48 (length c.args.line.now) (omega arith))
    (verdict_of_sheet key le c.args.sheet.now v u w c.in_default.ensures c.give_runs.ensures.runs c.args.policy c.new-bench.ensures.policy_is c.give_runs.ensures.view c.line.ensures.judged)
    q.1
    q.2

-- By the rules alone, as the next: a wrong answer is refused at once.
pub returns-then-line-lt-LINE_LENGTH : goal.returns-then-line-lt-LINE_LENGTH
returns-then-line-lt-LINE_LENGTH g c = search rules

pub returns-in-Err : goal.returns-in-Err
returns-in-Err g c = search rules

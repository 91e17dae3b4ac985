-- By the rules alone: a wrong body is refused at once.
use Rattle.std.proofs.Common.{rules}
use Rattle.report.proofs.print.print_report.Goals as goal

pub returns-clause-report : goal.returns-clause-report
returns-clause-report g c = search rules

pub returns-clause-unread : goal.returns-clause-unread
returns-clause-unread g c = search rules

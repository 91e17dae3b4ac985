use Rattle.report.proofs.Single.{one_text}
use Rattle.report.proofs.report.report_text.Goals as goal

pub returns-clause-one_text : goal.returns-clause-one_text
returns-clause-one_text c = one_text

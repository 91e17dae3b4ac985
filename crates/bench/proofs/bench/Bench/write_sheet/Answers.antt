-- By the rules alone: a wrong body is refused at once.
use Rattle.std.proofs.Common.{rules}
use Rattle.bench.proofs.bench.Bench.write_sheet.Goals as goal

pub returns-clause-step : goal.returns-clause-step
returns-clause-step g c = search rules

pub returns-clause-decodes : goal.returns-clause-decodes
returns-clause-decodes g c = search rules

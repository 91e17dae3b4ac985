use Rattle.bench.specs.Steps.{view}
use Rattle.bench.proofs.Sheeting.{takes_sheets}
use Rattle.bench.proofs.bench.Bench.load.Goals as goal

pub returns-clause-exactly_sheets : goal.returns-clause-exactly_sheets
returns-clause-exactly_sheets g c = λ open_now. takes_sheets (view c.args.self.now) open_now c.args.sheet.now c.take_sheet.result (view c.take_sheet.new.self) c.take_sheet.ensures

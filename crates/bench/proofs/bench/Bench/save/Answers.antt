use Rattle.bench.proofs.Sheeting.{saved_back}
use Rattle.bench.proofs.bench.Bench.save.Goals as goal

pub returns-clause-loads_back : goal.returns-clause-loads_back
returns-clause-loads_back g c = saved_back g.row.P.Denot c.write_sheet.new.buffer c.args.cpus c.args.self.now.table.tasks c.write_sheet.result c.write_sheet.ensures.decodes

use Rattle.sheet.proofs.Saving.{encoded_loads_back}
use Rattle.sheet.proofs.encode.encode.Goals as goal

pub returns-clause-loads_back : goal.returns-clause-loads_back
returns-clause-loads_back c = encoded_loads_back c.args.table.now c.args.cpus c.args.buffer.now c.write_sheet.new.buffer c.write_sheet.result c.write_sheet.ensures

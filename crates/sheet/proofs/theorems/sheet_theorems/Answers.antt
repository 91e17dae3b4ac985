use Rattle.sheet.proofs.Single as single
use Rattle.sheet.proofs.Cutting as cutting
use Rattle.sheet.proofs.Saving as saving
use Rattle.sheet.proofs.theorems.sheet_theorems.Goals as goal

pub returns : goal.returns
returns c = record { one_answer = single.one_answer; decodes_exactly = single.decodes_exactly; prefix_suffices = cutting.prefix_suffices; saved_loads_back = saving.saved_loads_back }

use Rattle.sheet.specs.Decoding.{seen}
use Rattle.sheet.proofs.Single.{one_answer}
use Rattle.sheet.proofs.Cutting.{prefix_suffices}
use Rattle.sheet.proofs.decode.decode.Goals as goal

pub returns-clause-only : goal.returns-clause-only
returns-clause-only c = λ q h. one_answer c.args.bytes.now q (seen c.read_records.result) h c.read_records.ensures

pub returns-clause-prefix : goal.returns-clause-prefix
returns-clause-prefix c = prefix_suffices c.args.bytes.now (seen c.read_records.result) c.read_records.ensures

use Rattle.std.proofs.Common.{rules}
use Rattle.judge.proofs.Single.{one_output}
use Rattle.judge.proofs.lines.judge_lines.Goals as goal

pub returns-clause-one_output : goal.returns-clause-one_output
returns-clause-one_output g c = one_output

pub returns-in_err-map_err-clause-one_output : goal.returns-in_err-map_err-clause-one_output
returns-in_err-map_err-clause-one_output g c = one_output

pub returns-clause-flushed : goal.returns-clause-flushed
returns-clause-flushed g c = search rules

pub returns-clause-text : goal.returns-clause-text
returns-clause-text g c = search rules

use Rattle.task.proofs.Holding.{holds_just_these, takes_just_lawful_entries}
use Rattle.task.proofs.Leaving.{withdrawn_may_return}
use Rattle.task.proofs.theorems.table_theorems.Goals as goal

pub returns : goal.returns
returns c = record { holds = holds_just_these; takes = takes_just_lawful_entries; returns = withdrawn_may_return }

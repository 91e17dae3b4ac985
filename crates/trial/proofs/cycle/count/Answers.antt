use Rattle.std.proofs.Common.{rules}
use borrow.Author.Rules.{get_or_read}
use Rattle.schedule.proofs.Sums.{count_none, count_more}
use Rattle.trial.proofs.cycle.count.Goals as goal

pub loop-place-init : goal.loop-place-init
loop-place-init c = search (rules, count_none)

pub loop-place-preserved : goal.loop-place-preserved
loop-place-preserved c = search (rules, count_more, get_or_read)

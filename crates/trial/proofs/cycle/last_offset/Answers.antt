use Rattle.std.proofs.Common.{rules}
use borrow.Author.Rules.{get_or_read}
use Rattle.schedule.proofs.Largest.{largest_none, largest_more}
use Rattle.trial.proofs.cycle.last_offset.Goals as goal

pub loop-place-init : goal.loop-place-init
loop-place-init c = search (rules, largest_none)

pub loop-place-preserved : goal.loop-place-preserved
loop-place-preserved c = search (rules, largest_more, get_or_read)

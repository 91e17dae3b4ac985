use Rattle.std.proofs.Common.{◌+◌}
use Rattle.std.proofs.lemmas.List.{get_or-replicate}
use Rattle.task.specs.Tables.{entry_at}
use Rattle.policy.specs.Dispatch.{is_active}
use Rattle.policy.proofs.Words.{word_has}
use Rattle.trial.proofs.calendar.Calendar.new.Goals as goal

pub returns-clause-events : goal.returns-clause-events
returns-clause-events c i h = get_or-replicate 32 i (c.args.t + 1) 0 h

pub returns-clause-active : goal.returns-clause-active
returns-clause-active c i h = word_has (is_active (entry_at c.args.tasks.now) c.args.left.now) c.active_set.result i c.active_set.ensures h

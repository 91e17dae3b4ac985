-- When a call is turned down: by whether the bench is started and by its table, and by nothing else.
use Rattle.std.specs.Prelude.{ℕ, Bool, true, false, List, length, Some, None, Option, slice_index_or}
use Rattle.task.specs.declared.entry.Entry.{Entry}
use Rattle.task.specs.declared.refusal.Refusal.{Refusal}
use Rattle.task.specs.declared.refusal.Refusal.TheVariants.{AlreadyStarted}
use Rattle.task.specs.Rules.{entry_refusal, withdraw_refusal}
use Rattle.sheet.specs.Encoding.{save_refusal}
use Rattle.bench.specs.Calls.{Call, entering, withdrawing, loading, saving, starting, running_for, halting, asking_verdict, asking_set, asking_line}
use Rattle.bench.specs.Steps.{start_refusal, open_refusal, line_refusal}

-- the entry of task i in a table
abbrev pub placed : List (Option Entry) → ℕ → Option Entry
placed places i = slice_index_or places i None

-- a call that wants an open bench, and what else it is refused for
abbrev pub wants_open : (started : Bool) → Option Refusal → Option Refusal
wants_open true other = Some AlreadyStarted
wants_open false other = other

-- Why a call is turned down, checked in this order. A load that is not turned down here is one by the faults of its sheet.
abbrev pub refusal : (started : Bool) → List (Option Entry) → Call → Option Refusal
refusal started table (entering e) = wants_open started (entry_refusal table e)
refusal started table (withdrawing number) = wants_open started (withdraw_refusal table number)
refusal started table (loading sheet) = wants_open started None
refusal started table (saving cpus buffer) = wants_open started (save_refusal cpus (length buffer))
refusal started table (starting cpus) = start_refusal started (placed table) cpus
refusal started table (running_for slots) = open_refusal started
refusal started table halting = open_refusal started
refusal started table asking_verdict = open_refusal started
refusal started table asking_set = open_refusal started
refusal started table (asking_line buffer) = line_refusal started (length buffer)

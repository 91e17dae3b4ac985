-- The entries of a table, place by place.
use Rattle.std.proofs.Common.{◌≡◌, ℕ, List, None, Option}
use Rattle.std.proofs.Math.ListN.{get_or-map}
use mathlib.Core.Path.{fun_ext}
use Rattle.task.specs.declared.entry.Entry.{Entry}
use Rattle.task.specs.declared.task.Task.{Task}
use Rattle.task.specs.Tables.{entry_of, entry_at, entries}
use Rattle.bench.specs.Refusing.{placed}

pub placed_entries : (tasks : List (Option Task)) → ◌≡◌ {A = ℕ → Option Entry} (placed (entries tasks)) (entry_at tasks)
placed_entries tasks = fun_ext (λ i. get_or-map entry_of tasks i None)

-- What loading a sheet and starting makes of a bench.
use Rattle.std.specs.Prelude.{◌≡◌, ℕ, false, List, None, Ok, Err, Result}
use Rattle.task.specs.Tables.{entry_at, entries}
use Rattle.sheet.specs.Decoding.{Decodes}
use Rattle.trial.specs.declared.trial.Trial.{Trial}
use Rattle.trial.specs.Trials.{Fresh}
use Rattle.bench.specs.declared.fault.Fault.{Fault}
use Rattle.bench.specs.declared.mode.Mode.TheVariants.{Running}
use Rattle.bench.specs.Steps.{View, start_refusal}
use Rattle.report.specs.Prints.{Faulty}

-- the bench has the sheet's tasks and is at instant 0 on the sheet's CPUs
pub record Prepared {P : Type 0} (bytes : List ℕ) (v u : View P) : Type 0 where
  pub cpus : ℕ
  pub trial : Trial
  pub decoded : Decodes bytes (Ok (cpus, entries u.tasks))
  pub starts : start_refusal false (entry_at u.tasks) cpus ≡ None
  pub fresh : Fresh (entry_at u.tasks) cpus trial
  pub after : u ≡ record { policy = v.policy; tasks = u.tasks; mode = Running trial }

-- what preparing does, by its answer: the bench is prepared, or the sheet has a fault
abbrev pub Prepares : {P : Type 0} → List ℕ → View P → Result (Unit {0}) Fault → View P → Type 0
Prepares bytes v (Ok _) u = Prepared bytes v u
Prepares bytes v (Err f) u = Faulty bytes f

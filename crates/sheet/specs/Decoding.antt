-- What any bytes decode to: the CPUs and the table of a sheet, or the fault of the first bad record.
use Rattle.std.specs.Prelude.{◌≡◌, ℕ, ◌≤◌, true, false, ◌⊎◌, List, ◌++◌, length, Some, Ok, Err, Option, Result}
use Rattle.task.specs.declared.entry.Entry.{Entry}
use Rattle.task.specs.declared.table.Table.{Table}
use Rattle.task.specs.Rules.{no_tasks}
use Rattle.task.specs.Tables.{Obey, entries, table_of}
use Rattle.sheet.specs.declared.fault.LoadFault.{LoadFault}
use Rattle.sheet.specs.Format.{front, SheetOf}
use Rattle.sheet.specs.Faults.{fault_at}

-- an answer: the number of CPUs and the places of the table, or a fault
abbrev pub Answer : Type 0
Answer = Result (ℕ × List (Option Entry)) LoadFault

-- the answer with the entries of the table's tasks in place of the table
abbrev pub seen : Result (ℕ × Table) LoadFault → Answer
seen (Ok q) = Ok (q.0, entries q.1.tasks)
seen (Err f) = Err f

-- the bytes are a sheet, and the places are the table of just its entries
pub record Tells (bytes : List ℕ) (cpus : ℕ) (places : List (Option Entry)) : Type 0 where
  pub told : List Entry
  pub sheet : SheetOf cpus told bytes
  pub holds : places ≡ table_of told

-- the bytes begin as a sheet does, and the record that is due then has the fault
pub record Breaks (bytes : List ℕ) (f : LoadFault) : Type 0 where
  pub cpus : ℕ
  pub told : List Entry
  pub rest : List ℕ
  pub some : 1 ≤ cpus
  pub few : cpus ≤ 8
  pub obey : Obey told
  pub read : bytes ≡ front cpus told ++ rest
  pub fault : fault_at false (table_of told) (length (front cpus told)) rest ≡ Some f

-- what the bytes decode to: the first record has the fault, or a later one, or there is none
abbrev pub Decodes : List ℕ → Answer → Type 0
Decodes bytes (Ok q) = Tells bytes q.0 q.1
Decodes bytes (Err f) = (fault_at true no_tasks 0 bytes ≡ Some f) ⊎ Breaks bytes f

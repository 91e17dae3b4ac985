-- Which sheets an open bench takes, and that it takes back what it saved.
use Rattle.std.proofs.Common.{◌≡◌, ℕ, Bool, List, take, IfOk, Ok, Err, Option, Result, ap, subst}
use Rattle.task.specs.declared.refusal.Refusal.{Refusal}
use Rattle.task.specs.declared.task.Task.{Task}
use Rattle.task.specs.Tables.{entries, table_of}
use Rattle.sheet.specs.declared.fault.LoadFault.{LoadFault}
use Rattle.sheet.specs.Decoding.{Decodes}
use Rattle.sheet.proofs.Single.{both_tell, tells_or_faulty, sheet_decodes}
use Rattle.bench.specs.declared.mode.Mode.TheVariants.{Open}
use Rattle.bench.specs.Modes.{is_started}
use Rattle.bench.specs.Steps.{View, IsLoadFault, Loads}
use Rattle.bench.specs.EachCall.{TakesSheets, LoadsBack}

module _ {P : Type 0} (v : View P) (open_now : v.mode ≡ Open) (sheet : List ℕ) where
  its_fault : (f : LoadFault) → IsLoadFault (is_started v.mode) sheet f → Decodes sheet (Err f)
  its_fault f h = let F : Bool → Type 0 = λ b. IsLoadFault b sheet f in subst F (ap is_started open_now) h

  pub takes_sheets : (r : Result ℕ LoadFault) (u : View P) → Loads v sheet r u → TakesSheets sheet r
  takes_sheets (Ok cpus) u s = (s.1.told, s.1.sheet)
  takes_sheets (Err f) u s = λ cpus es q. tells_or_faulty sheet cpus (table_of es) f (sheet_decodes sheet cpus es q) (its_fault f s.0)

pub loads_back : (P : Type 0) (sheet : List ℕ) (cpus : ℕ) (tasks : List (Option Task)) → Decodes sheet (Ok (cpus, entries tasks)) → LoadsBack P sheet cpus tasks
loads_back P sheet cpus tasks d v u (Ok c) open_now s =
    let e = both_tell sheet c cpus (entries u.tasks) (entries tasks) s.1 d in
    (ap Ok e.0, e.1)
loads_back P sheet cpus tasks d v u (Err f) open_now s = tells_or_faulty sheet cpus (entries tasks) f d (its_fault v open_now sheet f s.0)

pub saved_back : (P : Type 0) (after : List ℕ) (cpus : ℕ) (tasks : List (Option Task)) (r : Result ℕ Refusal)
    → IfOk r (λ n. Decodes (take n after) (Ok (cpus, entries tasks))) → IfOk r (λ n. LoadsBack P (take n after) cpus tasks)
saved_back P after cpus tasks (Ok n) d = loads_back P (take n after) cpus tasks d
saved_back P after cpus tasks (Err e) d = tt

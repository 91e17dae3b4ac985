-- What a bench is, and what new, load, start, run and line answer and make of it, for every input and every refusal.
use Rattle.std.specs.Prelude.{◌≡◌, ℕ, Bool, true, false, cond, List, length, is_some, Some, None, Ok, Err, Option, Result, ◌==◌, nat_lt}
use Rattle.schedule.specs.Counting.{count_below}
use Rattle.schedule.specs.Plan.{Plan}
use Rattle.task.specs.declared.entry.Entry.{Entry}
use Rattle.task.specs.declared.task.Task.{Task}
use Rattle.task.specs.declared.refusal.Refusal.{Refusal}
use Rattle.task.specs.declared.refusal.Refusal.TheVariants.{AlreadyStarted, NotStarted, CpusOutOfRange, NoTasks, HyperperiodTooLong}
use Rattle.task.specs.Rules.{outside, no_tasks}
use Rattle.task.specs.Tables.{entry_at, entries}
use Rattle.sheet.specs.declared.fault.LoadFault.{LoadFault}
use Rattle.sheet.specs.declared.fault.LoadFault.TheVariants.{Refused}
use Rattle.sheet.specs.Decoding.{Decodes}
use Rattle.policy.specs.Plans.{plan_of}
use Rattle.trial.specs.declared.trial.Trial.{Trial}
use Rattle.trial.specs.declared.trial.Outcome.{Outcome}
use Rattle.trial.specs.declared.trial.Outcome.TheVariants.{Ran, Missed as Miss, Agreed}
use Rattle.trial.specs.Cycles.{table_period}
use Rattle.trial.specs.Trials.{Fresh, Runs}
use Rattle.bench.specs.declared.bench.Bench.{Bench}
use Rattle.bench.specs.declared.mode.Mode.{Mode}
use Rattle.bench.specs.declared.mode.Mode.TheVariants.{Open, Running, Held, Missed}
use Rattle.bench.specs.declared.verdict.Verdict.{Verdict}
use Rattle.bench.specs.Lines.{verdict_line, room_refusal, WritesLine}
use Rattle.bench.specs.Modes.{is_started, verdict_of}

-- what can be said of a bench: its policy, the tasks in its table, and where it stands
pub record View (P : Type 0) : Type 0 where
  pub policy : P
  pub tasks : List (Option Task)
  pub mode : Mode

-- the view of a bench
abbrev pub view : {P : Type 0} → Bench P → View P
view b = record { policy = b.policy; tasks = b.table.tasks; mode = b.mode }

-- why a start is refused, checked in this order
abbrev pub start_refusal : (started : Bool) → (ℕ → Option Entry) → ℕ → Option Refusal
start_refusal true at m = Some AlreadyStarted
start_refusal false at m =
    cond (outside m 8) (Some CpusOutOfRange)
    (cond (count_below 32 (λ i. is_some (at i)) == 0) (Some NoTasks)
    (cond (nat_lt 10000000 (table_period at)) (Some HyperperiodTooLong) None))

-- the trial that a start puts the bench into, or the refusal
abbrev pub Begins : (started : Bool) → (ℕ → Option Entry) → ℕ → Result Trial Refusal → Type 0
Begins started at m (Ok a) = (start_refusal started at m ≡ None) × Fresh at m a
Begins started at m (Err e) = start_refusal started at m ≡ Some e

-- why a call that wants a started bench is refused
abbrev pub open_refusal : (started : Bool) → Option Refusal
open_refusal true = None
open_refusal false = Some NotStarted

-- why a line of the verdict is refused, checked in this order
abbrev pub line_refusal : (started : Bool) → (room : ℕ) → Option Refusal
line_refusal true room = room_refusal room
line_refusal false room = Some NotStarted

-- A started bench goes on by n slots: a trial by the slots of the endless schedule, up to the first instant that decides; a
-- decided bench makes none.
abbrev pub GoesOn : Plan → Mode → ℕ → Mode → Type 0
GoesOn p Open n b = ⊥
GoesOn p (Running a) n Open = ⊥
GoesOn p (Running a) n (Running b) = Runs p a n Ran b
GoesOn p (Running a) n (Held b first second) = Runs p a n (Agreed first second) b
GoesOn p (Running a) n (Missed b task instant) = Runs p a n (Miss task) b × (instant ≡ b.instant)
GoesOn p (Held a first second) n b = b ≡ Held a first second
GoesOn p (Missed a task instant) n b = b ≡ Missed a task instant

-- the fault of a load that is refused
abbrev pub IsLoadFault : (started : Bool) → List ℕ → LoadFault → Type 0
IsLoadFault true bytes f = f ≡ Refused AlreadyStarted 0
IsLoadFault false bytes f = Decodes bytes (Err f)

-- where the outcome of its slots leaves a bench
abbrev pub decided : Outcome → Mode → Mode
decided Ran mode = mode
decided (Miss task) Open = Open
decided (Miss task) (Running a) = Missed a task a.instant
decided (Miss task) (Held a first second) = Held a first second
decided (Miss task) (Missed a i t) = Missed a i t
decided (Agreed first second) Open = Open
decided (Agreed first second) (Running a) = Held a first second
decided (Agreed first second) (Held a x y) = Held a x y
decided (Agreed first second) (Missed a i t) = Missed a i t

module _ {P : Type 0} where
  -- a new bench has its policy, is open and has no tasks
  pub record New (policy : P) (v : View P) : Type 0 where
    pub policy_is : v.policy ≡ policy
    pub no_task : entries v.tasks ≡ no_tasks
    pub is_open : v.mode ≡ Open

  -- a load replaces the whole table by the sheet's and answers the sheet's CPU number
  abbrev pub Loads : View P → List ℕ → Result ℕ LoadFault → View P → Type 0
  Loads v bytes (Ok cpus) u =
      (v.mode ≡ Open) × Decodes bytes (Ok (cpus, entries u.tasks))
      × (u ≡ record { policy = v.policy; tasks = u.tasks; mode = Open })
  Loads v bytes (Err f) u = IsLoadFault (is_started v.mode) bytes f × (u ≡ v)

  -- the bench with another mode
  abbrev pub with_mode : View P → Mode → View P
  with_mode v mode = record { policy = v.policy; tasks = v.tasks; mode = mode }

  -- a start puts the bench at instant 0
  abbrev pub Starts : View P → ℕ → Result (Unit {0}) Refusal → View P → Type 0
  Starts v m (Ok _) u =
      (start_refusal (is_started v.mode) (entry_at v.tasks) m ≡ None)
      × ((a : Trial) × Fresh (entry_at v.tasks) m a × (u ≡ with_mode v (Running a)))
  Starts v m (Err e) u = (start_refusal (is_started v.mode) (entry_at v.tasks) m ≡ Some e) × (u ≡ v)

  -- a line of the verdict leaves the bench as it is
  abbrev pub Lines : View P → (before after : List ℕ) → Result ℕ Refusal → Type 0
  Lines v before after r = WritesLine (line_refusal (is_started v.mode) (length before)) (verdict_line (verdict_of v.mode)) before after r

module _ {P K : Type 0} (keyed : P → Entry → ℕ → K) (le : P → K → K → Bool) where
  -- the plan of a bench: its table under its policy
  abbrev pub plan_for : View P → Plan
  plan_for v = plan_of (keyed v.policy) (le v.policy) (entry_at v.tasks)

  -- a run makes slots and answers the verdict
  abbrev pub RanFor : View P → ℕ → Result Verdict Refusal → View P → Type 0
  RanFor v n (Ok y) u =
      (open_refusal (is_started v.mode) ≡ None) × GoesOn (plan_for v) v.mode n u.mode
      × (u ≡ with_mode v u.mode) × (y ≡ verdict_of u.mode)
  RanFor v n (Err e) u = (open_refusal (is_started v.mode) ≡ Some e) × (u ≡ v)

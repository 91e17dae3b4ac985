-- The parts of a slot: rule 3, the new instant, and the boundary that it may be.
use Rattle.std.specs.Prelude.{◌≡◌, ℕ, ◌+◌, ◌-◌, ◌<◌, ◌≤◌, Bool, true, cond, ◌&&◌, ◌==◌, count_ones, List, Option}
use Rattle.schedule.specs.Plan.{Plan}
use Rattle.schedule.specs.Schedule.{deadline_at, has_cpu}
use Rattle.task.specs.declared.task.Task.{Task}
use Rattle.task.specs.Tables.{entry_at}
use Rattle.policy.specs.Dispatch.{is_active}
use Rattle.policy.specs.Members.{has}
use Rattle.policy.specs.Sets.{left_of, word_of}
use Rattle.trial.specs.declared.trial.Trial.{Trial}
use Rattle.trial.specs.declared.watch.Watch.{Watch}
use Rattle.trial.specs.Trials.{after_slot, Moved, SameBoundaries}

-- what is left of task i's job, where each job of the set `ran` has lost 1
abbrev pub worked : (ran : ℕ) → List ℕ → ℕ → ℕ
worked ran left i = cond (has ran i) (left_of left i - 1) (left_of left i)

-- task i's job is of the set `ran` and has nothing left
abbrev pub is_finished : (ran : ℕ) → List ℕ → ℕ → Bool
is_finished ran left i = has ran i && (left_of left i == 0)

-- a watch is one of these tasks, and of the trial's instant and its active jobs; and it says that there are CPUs for all of
-- them just where there are
pub record Watched (tasks : List (Option Task)) (a : Trial) (w : Watch) : Type 0 where
  pub tasks_are : w.tasks.now ≡ tasks
  pub begun : w.since ≤ a.instant
  pub not_over : a.instant < w.calm
  pub active_is : (i : ℕ) → i < 32 → has w.calendar.active i ≡ is_active (entry_at tasks) a.left i
  pub few_are : w.few ≡ true → count_ones w.calendar.active ≤ a.cpus
  pub are_few : count_ones w.calendar.active ≤ a.cpus → w.few ≡ true

-- what a watch knows of its instants is as it was
pub record SameInstants (v w : Watch) : Type 0 where
  pub tasks_kept : w.tasks.now ≡ v.tasks.now
  pub released_kept : w.calendar.released ≡ v.calendar.released
  pub since_kept : w.since ≡ v.since
  pub calm_kept : w.calm ≡ v.calm

-- b is a after rule 3 in the slot from its instant
pub record Ticked (p : Plan) (a b : Trial) : Type 0 where
  pub cpus_kept : b.cpus ≡ a.cpus
  pub start_kept : b.start ≡ a.start
  pub span_kept : b.span ≡ a.span
  pub later : b.instant ≡ a.instant + 1
  pub ran_is : b.ran ≡ word_of (has_cpu p a.cpus a.instant (left_of a.left)) 32
  pub left_is : (i : ℕ) → i < 32 → left_of b.left i ≡ after_slot p a i
  pub boundaries : SameBoundaries a b

-- b is a one slot later, and `due` the word of the tasks with a job that comes to its deadline then
pub record Passes (p : Plan) (a : Trial) (due : ℕ) (b : Trial) : Type 0 where
  pub moved : Moved p a b
  pub boundaries : SameBoundaries a b
  pub due_is : due ≡ word_of (λ i. deadline_at p i (a.instant + 1)) 32

-- b is a with its next boundary passed
pub record Marked (a b : Trial) : Type 0 where
  pub cpus_kept : b.cpus ≡ a.cpus
  pub start_kept : b.start ≡ a.start
  pub span_kept : b.span ≡ a.span
  pub instant_kept : b.instant ≡ a.instant
  pub left_kept : b.left ≡ a.left
  pub ran_kept : b.ran ≡ a.ran
  pub next_is : b.next ≡ a.next + a.span
  pub last_is : b.last ≡ a.next
  pub saved_is : b.saved ≡ a.left

-- The kinds of worked examples, and what it means that one is right.
use Rattle.std.specs.Prelude.{◌≡◌, ℕ, ◌<◌, Bool, true, false, List, length, Some, None}
use Rattle.schedule.specs.Plan.{plain}
use Rattle.schedule.specs.Schedule.{has_cpu, config}
use Rattle.schedule.specs.Verdict.{Verdict, Fixes}
use Rattle.task.specs.declared.entry.Entry.{Entry}
use Rattle.task.specs.declared.refusal.Refusal.TheVariants.{HyperperiodTooLong}
use Rattle.task.specs.Tables.{InBounds}
use Rattle.policy.specs.Keys.{is_heavy}
use Rattle.policy.specs.Sets.{left_of, word_of}
use Rattle.trial.specs.Cycles.{table_period}
use Rattle.bench.specs.Steps.{start_refusal}
use Rattle.examples.specs.Policies.{Policy, entry_in, plan_under}

-- A worked example: under a policy and on some CPUs, of a table of tasks ..
pub data Row : Type 0 where
  -- .. the verdict after so many slots;
  VerdictAfter : (policy : Policy) (cpus : ℕ) (table : List Entry) (slots : ℕ) (verdict : Verdict) → Row
  -- .. what is left of each task's job at an instant, with rules 1 and 2 applied there;
  LeftAt : (policy : Policy) (cpus : ℕ) (table : List Entry) (instant : ℕ) (left : List ℕ) → Row
  -- .. the word of the tasks that run in the slot from an instant, a bit for each.
  RunningFrom : (policy : Policy) (cpus : ℕ) (table : List Entry) (instant : ℕ) (set : ℕ) → Row
  -- Whether a task is heavy at the threshold a / b.
  HeavyAt : (a b : ℕ) (task : Entry) (heavy : Bool) → Row
  -- Every task that keeps its bounds is heavy at the threshold a / b, or none is.
  AllHeavyAt : (a b : ℕ) → Row
  NoneHeavyAt : (a b : ℕ) → Row
  -- The hyperperiod of a table with which an open bench may start on some CPUs ..
  MayStart : (cpus : ℕ) (table : List Entry) (period : ℕ) → Row
  -- .. and of one whose hyperperiod is why the start is refused.
  TooLongToStart : (cpus : ℕ) (table : List Entry) (period : ℕ) → Row

-- what a row says of the endless schedule, of a threshold or of a start
abbrev pub Right : Row → Type 0
Right (VerdictAfter policy m table s v) = let p = plan_under policy table in Fixes p (plain p m) s v
Right (LeftAt policy m table t left) = let p = plan_under policy table in (i : ℕ) → i < length table → config p (plain p m) t i ≡ left_of left i
Right (RunningFrom policy m table t set) = let p = plan_under policy table in word_of (has_cpu p m t (config p (plain p m) t)) 32 ≡ set
Right (HeavyAt a b e heavy) = is_heavy a b e ≡ heavy
Right (AllHeavyAt a b) = (e : Entry) → InBounds e → is_heavy a b e ≡ true
Right (NoneHeavyAt a b) = (e : Entry) → InBounds e → is_heavy a b e ≡ false
Right (MayStart m table period) = (table_period (entry_in table) ≡ period) × (start_refusal false (entry_in table) m ≡ None)
Right (TooLongToStart m table period) = (table_period (entry_in table) ≡ period) × (start_refusal false (entry_in table) m ≡ Some HyperperiodTooLong)

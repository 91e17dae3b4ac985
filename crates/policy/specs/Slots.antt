-- The jobs that ask for a slot under a policy, given by the keys and the order of its state, and which of them run.
use Rattle.std.specs.Prelude.{◌≡◌, ◌≢◌, ℕ, ◌+◌, ◌<◌, Bool, true, false, cond, ◌⊎◌, List, Some, None, Option}
use Rattle.schedule.specs.Counting.{count_below}
use Rattle.schedule.specs.Schedule.{has_cpu}
use Rattle.task.specs.declared.entry.Entry.{Entry}
use Rattle.task.specs.Tables.{entry_at}
use Rattle.policy.specs.declared.slot.Slot.{Slot}
use Rattle.policy.specs.declared.choosing.Job.{Job}
use Rattle.policy.specs.declared.choosing.Contest.{Contest}
use Rattle.policy.specs.Dispatch.{set_job, Known}
use Rattle.policy.specs.Members.{has}
use Rattle.policy.specs.Order.{stands_before}
use Rattle.policy.specs.Plans.{plan_of}
use Rattle.policy.specs.Sets.{left_of, word_of}

-- the keys of the jobs of a slot by task number
abbrev pub keys_of : {P K : Type 0} → (P → Entry → ℕ → K) → Slot P → ℕ → Option K
keys_of keyed s = set_job (keyed s.policy.now) (entry_at s.tasks.now) s.jobs s.released.now s.instant

-- of two jobs the one that the other stands before; the second, where there is no first
abbrev pub later_of : {K : Type 0} → (K → K → Bool) → Option (Job K) → Job K → Job K
later_of le None b = b
later_of le (Some a) b = cond (stands_before le b.key b.place a.key a.place) a b

-- a job is the last of a set's jobs below n: it is one of them, and each other one stands before it
pub record LastOf {P K : Type 0} (keyed : P → Entry → ℕ → K) (le : P → K → K → Bool) (s : Slot P) (set n : ℕ) (job : Job K) : Type 0 where
  pub place : job.place < n
  pub member : has set job.place ≡ true
  pub key : keys_of keyed s job.place ≡ Some job.key
  pub others : (i : ℕ) (k : K) → i < n → has set i ≡ true → i ≢ job.place → keys_of keyed s i ≡ Some k
      → stands_before (le s.policy.now) k i job.key job.place ≡ true

-- the last of them, if there are any
abbrev pub LastTo : {P K : Type 0} → (P → Entry → ℕ → K) → (P → K → K → Bool) → Slot P → (set n : ℕ) → Option (Job K) → Type 0
LastTo keyed le s set n None = (i : ℕ) → i < n → has set i ≡ false
LastTo keyed le s set n (Some job) = LastOf keyed le s set n job

-- Of the slot's jobs below n, those of the set run: each of them stands before each of the others, there is a CPU for each of
-- them, and where a CPU is free none of the others is left.
pub record RunSoFar {P K : Type 0} (keyed : P → Entry → ℕ → K) (le : P → K → K → Bool) (s : Slot P) (n : ℕ) (c : Contest K) : Type 0 where
  pub inside : (i : ℕ) → i < 32 → has c.set i ≡ true → (has s.jobs i ≡ true) × (i < n)
  pub ahead : (i j : ℕ) (k l : K) → i < 32 → j < n → has c.set i ≡ true → has c.set j ≡ false → keys_of keyed s i ≡ Some k → keys_of keyed s j ≡ Some l
      → stands_before (le s.policy.now) k i l j ≡ true
  pub places : count_below 32 (has c.set) + c.free ≡ s.cpus
  pub free : 0 < c.free → (i : ℕ) → i < n → has s.jobs i ≡ true → has c.set i ≡ true
  pub last : LastTo keyed le s c.set 32 c.last
  pub word : c.set < 4294967296

-- job j was gone through once those of the rest below n were: it is one of these, or not of the rest
abbrev pub Met : {K : Type 0} → Contest K → (n j : ℕ) → Type 0
Met c n j = (j < n) ⊎ (has c.rest j ≡ false)

-- The same of a choice that may begin with some of the jobs: of the slot's jobs that were gone through once those of the rest
-- below n were, those of the set run.
pub record RunOfMet {P K : Type 0} (keyed : P → Entry → ℕ → K) (le : P → K → K → Bool) (s : Slot P) (n : ℕ) (c : Contest K) : Type 0 where
  pub inside : (i : ℕ) → i < 32 → has c.set i ≡ true → (has s.jobs i ≡ true) × Met c n i
  pub ahead : (i j : ℕ) (k l : K) → i < 32 → j < 32 → Met c n j → has c.set i ≡ true → has c.set j ≡ false → keys_of keyed s i ≡ Some k → keys_of keyed s j ≡ Some l
      → stands_before (le s.policy.now) k i l j ≡ true
  pub places : count_below 32 (has c.set) + c.free ≡ s.cpus
  pub free : 0 < c.free → (i : ℕ) → i < 32 → Met c n i → has s.jobs i ≡ true → has c.set i ≡ true
  pub last : LastTo keyed le s c.set 32 c.last
  pub word : c.set < 4294967296

-- the set is that of the jobs that run in the plan, whatever is left of each, where the slot's jobs and their ages are known
abbrev pub Runs : {P K : Type 0} → (P → Entry → ℕ → K) → (P → K → K → Bool) → Slot P → ℕ → Type 0
Runs keyed le s set =
    (left : List ℕ) → Known (entry_at s.tasks.now) left s.jobs s.released.now s.instant
    → set ≡ word_of (has_cpu (plan_of (keyed s.policy.now) (le s.policy.now) (entry_at s.tasks.now)) s.cpus s.instant (left_of left)) 32

-- What a trial is at its beginning, what one slot makes of it, and what a run of slots does.
use Rattle.std.specs.Prelude.{◌≡◌, ℕ, ◌+◌, ◌<◌, ◌≤◌, Bool, true, false, cond, ◌&&◌, ◌⊎◌, List, Some, None, Option, ◌==◌, nat_lt}
use Rattle.schedule.specs.Plan.{Plan, plain}
use Rattle.schedule.specs.Schedule.{deadline_at, opened, has_cpu, slot}
use Rattle.task.specs.declared.entry.Entry.{Entry}
use Rattle.policy.specs.Sets.{left_of, word_of}
use Rattle.trial.specs.Cycles.{table_offset, table_period}
use Rattle.trial.specs.Places.{opens}
use Rattle.trial.specs.declared.trial.Trial.{Trial}
use Rattle.trial.specs.declared.trial.Outcome.{Outcome}
use Rattle.trial.specs.declared.trial.Outcome.TheVariants.{Ran, Missed, Agreed}

-- no number below 32 passes the test
abbrev pub NonePasses : (ℕ → Bool) → Type 0
NonePasses test = (i : ℕ) → i < 32 → test i ≡ false

-- i is the lowest number below 32 that passes the test
abbrev pub Lowest : (ℕ → Bool) → ℕ → Type 0
Lowest test i = (i < 32) × (test i ≡ true) × ((j : ℕ) → j < i → test j ≡ false)

-- two configurations are equal
abbrev pub Equal : List ℕ → List ℕ → Type 0
Equal c d = (i : ℕ) → i < 32 → left_of c i ≡ left_of d i

-- A trial of a table on m CPUs at instant 0, with rules 1 and 2 applied there and nothing run yet: no policy is asked for this.
-- Boundary 0, if it is instant 0, is the latest boundary then.
pub record Fresh (at : ℕ → Option Entry) (m : ℕ) (a : Trial) : Type 0 where
  pub cpus_is : a.cpus ≡ m
  pub start_is : a.start ≡ table_offset at
  pub span_is : a.span ≡ table_period at
  pub instant_is : a.instant ≡ 0
  pub last_is : a.last ≡ 0
  pub next_is : a.next ≡ cond (a.start == 0) a.span a.start
  pub left_is : (i : ℕ) → i < 32 → left_of a.left i ≡ opens (at i) 0 0
  pub saved_is : a.saved ≡ a.left
  pub ran_is : a.ran ≡ 0
  pub early : a.start ≤ 1000000
  pub short : a.span ≤ 10000000

-- what the start of a trial answers: a fresh trial, or nothing where the hyperperiod is above 10,000,000
abbrev pub Starts : (ℕ → Option Entry) → ℕ → Option Trial → Type 0
Starts at m None = 10000000 < table_period at
Starts at m (Some a) = Fresh at m a

-- what is left of task i's job when the slot from the trial's instant is over
abbrev pub after_slot : Plan → Trial → ℕ → ℕ
after_slot p a i = slot p a.cpus a.instant (left_of a.left) i

-- rule 1 at the next instant finds that task i's job misses its deadline
abbrev pub missing : Plan → Trial → ℕ → Bool
missing p a i = deadline_at p i (a.instant + 1) && nat_lt 0 (after_slot p a i)

-- b is a one slot later, with rules 1 and 2 applied at the new instant, and has the set of the tasks that ran; from the last
-- instant on no slot is made
pub record Moved (p : Plan) (a b : Trial) : Type 0 where
  pub early : a.instant < 1000000000000000
  pub cpus_kept : b.cpus ≡ a.cpus
  pub start_kept : b.start ≡ a.start
  pub span_kept : b.span ≡ a.span
  pub later : b.instant ≡ a.instant + 1
  pub ran_is : b.ran ≡ word_of (has_cpu p a.cpus a.instant (left_of a.left)) 32
  pub left_is : (i : ℕ) → i < 32 → left_of b.left i ≡ opened p (plain p a.cpus) i (a.instant + 1) (after_slot p a i)

-- The boundaries that a trial has come by: `last` is the latest, with its configuration in `saved`, and `next` the one to come.

-- they are as they were
pub record SameBoundaries (a b : Trial) : Type 0 where
  pub next_kept : b.next ≡ a.next
  pub last_kept : b.last ≡ a.last
  pub saved_kept : b.saved ≡ a.saved

-- the new instant is no boundary, and nothing changes
pub record Between (a b : Trial) : Type 0 where
  pub not_yet : a.next ≡ a.instant + 1 → ⊥
  pub kept : SameBoundaries a b

-- the new instant is a boundary that does not agree with the one before, if there is one, and is the latest now
pub record Passed (a b : Trial) : Type 0 where
  pub reached : a.next ≡ a.instant + 1
  pub next_is : b.next ≡ a.next + a.span
  pub last_is : b.last ≡ a.next
  pub saved_is : b.saved ≡ b.left
  pub differs : a.start < a.next → ¬ Equal b.left a.saved

-- the new instant is a boundary that agrees with the one before, and nothing changes
pub record Repeated (a b : Trial) : Type 0 where
  pub kept : SameBoundaries a b
  pub reached : a.next ≡ a.instant + 1
  pub second : a.start < a.next
  pub equal : Equal b.left a.saved

-- what one slot from a came to, where b is the trial after it
abbrev pub CameTo : Plan → Trial → Trial → Outcome → Type 0
CameTo p a b Ran = NonePasses (missing p a) × (Passed a b ⊎ Between a b)
CameTo p a b (Missed i) = Lowest (missing p a) i × SameBoundaries a b
CameTo p a b (Agreed x y) = NonePasses (missing p a) × Repeated a b × (x ≡ a.last) × (y ≡ a.next)

-- b is a after n slots, none of which decided
pub data Undecided (p : Plan) (a : Trial) : ℕ → Trial → Type 0 where
  here : Undecided p a 0 a
  on : {n : ℕ} {b c : Trial} → Undecided p a n b → Moved p b c → CameTo p b c Ran → Undecided p a (n + 1) c

-- A run of n slots from a to b: all of them undecided, or as many as come to the last instant, or fewer and then one that
-- decides.
abbrev pub Runs : Plan → Trial → ℕ → Outcome → Trial → Type 0
Runs p a n Ran b = (j : ℕ) × Undecided p a j b × (j ≤ n) × ((j ≡ n) ⊎ (1000000000000000 ≤ b.instant))
Runs p a n (Missed i) b = (j : ℕ) × (c : Trial) × Undecided p a j c × (j < n) × Moved p c b × CameTo p c b (Missed i)
Runs p a n (Agreed x y) b = (j : ℕ) × (c : Trial) × Undecided p a j c × (j < n) × Moved p c b × CameTo p c b (Agreed x y)

-- The active jobs of an instant by their keys, and which of them run.
use Rattle.std.specs.Prelude.{◌≡◌, ℕ, ◌-◌, ◌%◌, ◌<◌, Bool, true, false, cond, ◌&&◌, List, is_some, Some, None, Option, nat_lt, slice_index}
use Rattle.schedule.specs.Counting.{count_below}
use Rattle.task.specs.declared.entry.Entry.{Entry}
use Rattle.policy.specs.Ages.{age_of}
use Rattle.policy.specs.Members.{has}
use Rattle.policy.specs.Order.{stands_before}
use Rattle.policy.specs.Sets.{left_of, word_of}

-- the key of a job with r left, where it is active
abbrev pub job_key : {K : Type 0} → (Entry → ℕ → K) → Option Entry → (age r : ℕ) → Option K
job_key keyed None age r = None
job_key keyed (Some e) age r = cond (nat_lt 0 r) (Some (keyed e age)) None

-- the key of the job of a place at an age
abbrev pub key_at : {K : Type 0} → (Entry → ℕ → K) → Option Entry → ℕ → Option K
key_at keyed None age = None
key_at keyed (Some e) age = Some (keyed e age)

-- how many slots there are from b to t, as a number of 32 bits
abbrev pub since : (b t : ℕ) → ℕ
since b t = (t - b) % 4294967296

-- the keys at t of the jobs of a set by task number, with the instants that their ages count from in a list
abbrev pub set_job : {K : Type 0} → (Entry → ℕ → K) → (ℕ → Option Entry) → (set : ℕ) (released : List ℕ) (t : ℕ) → ℕ → Option K
set_job keyed at set released t j = cond (has set j) (key_at keyed (at j) (since (slice_index released j) t)) None

-- task i's job is active
abbrev pub is_active : (ℕ → Option Entry) → List ℕ → ℕ → Bool
is_active at left i = is_some (at i) && nat_lt 0 (left_of left i)

-- at t, each job of the set is a task's, and its age counts from the instant in the list
abbrev pub Asking : (ℕ → Option Entry) → (set : ℕ) (released : List ℕ) (t : ℕ) → Type 0
Asking at set released t =
    (i : ℕ) → i < 32 → has set i ≡ true
    → (is_some (at i) ≡ true) × (since (slice_index released i) t ≡ age_of (at i) t)

-- at t, the set is that of the active jobs, and their ages count from the instants in the list
pub record Known (at : ℕ → Option Entry) (left : List ℕ) (set : ℕ) (released : List ℕ) (t : ℕ) : Type 0 where
  pub set_is : set ≡ word_of (is_active at left) 32
  pub ages_are : (i : ℕ) → i < 32 → is_active at left i ≡ true → since (slice_index released i) t ≡ age_of (at i) t

-- what stands at j is active and before task i's job, of key k
abbrev pub ahead_of : {K : Type 0} → (K → K → Bool) → Option K → ℕ → K → ℕ → Bool
ahead_of le None j k i = false
ahead_of le (Some a) j k i = stands_before le a j k i

-- how many active jobs stand before task i's, of key k
abbrev pub count_ahead : {K : Type 0} → (K → K → Bool) → (ℕ → Option K) → K → ℕ → ℕ
count_ahead le jobs k i = count_below 32 (λ j. ahead_of le (jobs j) j k i)

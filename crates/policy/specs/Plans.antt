-- The plan of a table under a policy.
use Rattle.std.specs.Prelude.{ℕ, Bool, false, is_some, Some, None, Option}
use Rattle.schedule.specs.Plan.{Plan}
use Rattle.task.specs.declared.entry.Entry.{Entry}
use Rattle.policy.specs.Order.{stands_before}

-- The figures of a place; of an empty one, such that nothing ever comes of it: the offset ..
abbrev pub offset_of : Option Entry → ℕ
offset_of None = 0
offset_of (Some e) = e.offset

-- .. its running time ..
abbrev pub time_of : Option Entry → ℕ
time_of None = 0
time_of (Some e) = e.runtime

-- .. its deadline ..
abbrev pub deadline_of : Option Entry → ℕ
deadline_of None = 0
deadline_of (Some e) = e.deadline

-- .. and its period
abbrev pub period_of : Option Entry → ℕ
period_of None = 1
period_of (Some e) = e.period

-- task i's job of age a stands before task j's of age b, by their keys
abbrev pub goes_before : {K : Type 0} → (Entry → ℕ → K) → (K → K → Bool) → Option Entry → (i a : ℕ) → Option Entry → (j b : ℕ) → Bool
goes_before keyed le None i a o j b = false
goes_before keyed le (Some d) i a None j b = false
goes_before keyed le (Some d) i a (Some e) j b = stands_before le (keyed d a) i (keyed e b) j

-- The plan of a table, given by the entry at each number, under a policy, given by its keys and their order.
abbrev pub plan_of : {K : Type 0} → (Entry → ℕ → K) → (K → K → Bool) → (ℕ → Option Entry) → Plan
plan_of keyed le at =
    record {
      tasks = 32;
      present = λ i. is_some (at i);
      offset = λ i. offset_of (at i);
      time = λ i. time_of (at i);
      deadline = λ i. deadline_of (at i);
      period = λ i. period_of (at i);
      before = λ i a j b. goes_before keyed le (at i) i a (at j) j b;
    }

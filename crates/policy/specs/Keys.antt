-- The keys of the policies.
use Rattle.std.specs.Prelude.{ℕ, ◌*◌, Bool, ℤ, pos, ◌-ℤ◌, nat_lt}
use Rattle.task.specs.declared.entry.Entry.{Entry}
use Rattle.policy.specs.declared.heavy.Weighed.{Weighed}
use Rattle.policy.specs.Order.{grouped}

-- Deadline: D − age, how long a job has until its deadline
abbrev pub time_to_deadline : Entry → ℕ → ℤ
time_to_deadline e age = pos e.deadline -ℤ pos age

-- Rank: the task's rank, at any age
abbrev pub rank_of : Entry → ℕ → ℕ
rank_of e age = e.rank

-- a task is heavy at the threshold a / b: C × b > a × T
abbrev pub is_heavy : ℕ → ℕ → Entry → Bool
is_heavy a b e = nat_lt (a * e.period) (e.runtime * b)

-- Heavy-first: heavy or light, together with the key below ..
abbrev pub heavy_key : {K : Type 0} → ℕ → ℕ → (Entry → ℕ → K) → Entry → ℕ → Weighed K
heavy_key a b keyed e age = record { heavy = is_heavy a b e; below = keyed e age }

-- .. where heavy stands before light, and inside each group the policy below decides.
abbrev pub heavy_first : {K : Type 0} → (K → K → Bool) → Weighed K → Weighed K → Bool
heavy_first le a b = grouped le a.heavy a.below b.heavy b.below

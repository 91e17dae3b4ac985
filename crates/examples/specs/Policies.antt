-- The policies of the examples, and the plan of a table under one of them.
use Rattle.std.specs.Prelude.{ℕ, zero, suc, Bool, List, [], ◌∷◌, ℤ, Some, None, Option, int_le, nat_le}
use Rattle.schedule.specs.Plan.{Plan}
use Rattle.task.specs.declared.entry.Entry.{Entry}
use Rattle.policy.specs.declared.heavy.Weighed.{Weighed}
use Rattle.policy.specs.Keys.{time_to_deadline, rank_of, heavy_key, heavy_first}
use Rattle.policy.specs.Plans.{plan_of}

-- earliest deadline first, fixed priorities, and heavy tasks first at the threshold a / b over another policy
pub data Policy : Type 0 where
  Deadline : Policy
  Rank : Policy
  HeavyFirstOver : (a b : ℕ) (below : Policy) → Policy

-- the keys of a policy ..
abbrev pub Key : Policy → Type 0
Key Deadline = ℤ
Key Rank = ℕ
Key (HeavyFirstOver a b below) = Weighed (Key below)

-- .. the key of a job, by its task and its age ..
abbrev pub keyed : (policy : Policy) → Entry → ℕ → Key policy
keyed Deadline = time_to_deadline
keyed Rank = rank_of
keyed (HeavyFirstOver a b below) = heavy_key a b (keyed below)

-- .. and which of two keys is at or before the other
abbrev pub precedes : (policy : Policy) → Key policy → Key policy → Bool
precedes Deadline = int_le
precedes Rank = nat_le
precedes (HeavyFirstOver a b below) = heavy_first (precedes below)

-- entry i of a table is task i
abbrev pub entry_in : List Entry → ℕ → Option Entry
entry_in [] i = None
entry_in (e ∷ es) zero = Some e
entry_in (e ∷ es) (suc i) = entry_in es i

-- the plan of a table under a policy
abbrev pub plan_under : Policy → List Entry → Plan
plan_under policy table = plan_of (keyed policy) (precedes policy) (entry_in table)

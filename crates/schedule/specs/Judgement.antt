-- The verdict that a trial of at most n slots comes to, and what it tells of the endless schedule.
use Rattle.std.specs.Prelude.{ℕ, suc, ◌<◌, ◌≤◌}
use Rattle.schedule.specs.Plan.{Plan, Way, plain, Lighter, whole_time}
use Rattle.schedule.specs.Schedule.{NeverMisses, boundary}
use Rattle.schedule.specs.Verdict.{Verdict, Missed, Holds, Running, Fixes}

-- "holds" and "missed" are decided
abbrev pub Decided : Verdict → Type 0
Decided (Missed i t) = Unit {0}
Decided (Holds a b) = Unit {0}
Decided (Running t) = ⊥

-- the verdict is "holds"
abbrev pub IsHolds : Verdict → Type 0
IsHolds (Missed i t) = ⊥
IsHolds (Holds a b) = Unit {0}
IsHolds (Running t) = ⊥

-- s is the first instant up to n whose verdict is not "running", or n where there is none; and v is the verdict of s
pub record Settles (p : Plan) (m n s : ℕ) (v : Verdict) : Type 0 where
  pub within : s ≤ n
  pub fixed : Fixes p (plain p m) s v
  pub waits : (u : ℕ) → u < s → Fixes p (plain p m) u (Running u)
  pub stops : s < n → Decided v

-- what such a verdict promises
pub record Promises (p : Plan) (m n : ℕ) (v : Verdict) : Type 0 where
  -- it is "holds" or "missed" once n is at least Omax + (W + 1) × P
  pub in_time : boundary p (suc (whole_time p)) ≤ n → Decided v
  -- "holds" means that no job of the endless schedule ever misses its deadline ..
  pub never : IsHolds v → NeverMisses p (plain p m)
  -- .. and where none ever does, a decided verdict is "holds"
  pub only : Decided v → NeverMisses p (plain p m) → IsHolds v
  -- after "holds" none misses with tasks left out, with CPUs added, or with jobs that need less than their running time
  pub lasting : IsHolds v → (w : Way) → Lighter p w → m ≤ w.cpus → NeverMisses p w

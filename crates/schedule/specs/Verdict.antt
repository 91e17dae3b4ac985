-- The verdict after s slots, that is, at instant s with rules 1 and 2 applied there.
use Rattle.std.specs.Prelude.{◌≡◌, ℕ, suc, ◌<◌, ◌≤◌}
use Rattle.schedule.specs.Plan.{Plan, Way}
use Rattle.schedule.specs.Schedule.{Misses, boundary, Agree}

-- the smallest instant at which a job misses, and the lowest task number that misses there
pub record FirstMiss (p : Plan) (w : Way) (i t : ℕ) : Type 0 where
  pub task : i < p.tasks
  pub misses : Misses p w i t
  pub none_earlier : (j u : ℕ) → j < p.tasks → u < t → ¬ Misses p w j u
  pub none_lower : (j : ℕ) → j < i → ¬ Misses p w j t

-- the smallest k of which boundaries k and k + 1 agree
pub record FirstAgreement (p : Plan) (w : Way) (k : ℕ) : Type 0 where
  pub agree : Agree p w k
  pub none_earlier : (j : ℕ) → j < k → ¬ Agree p w j

-- no job misses at or before s
abbrev pub NoMissBy : Plan → Way → ℕ → Type 0
NoMissBy p w s = (i t : ℕ) → i < p.tasks → t ≤ s → ¬ Misses p w i t

-- "missed", with the task and the instant; "holds", with the instants of two boundaries; or "running", with the instant
pub data Verdict : Type 0 where
  Missed : (task instant : ℕ) → Verdict
  Holds : (first second : ℕ) → Verdict
  Running : (instant : ℕ) → Verdict

-- Which verdict stands after s slots: "missed" if the first miss is at or before s; otherwise "holds" if two neighbouring
-- boundaries agree, the later at or before s, with the instants of the first two that do; otherwise "running", with s.
abbrev pub Fixes : (p : Plan) → Way → ℕ → Verdict → Type 0
Fixes p w s (Missed i t) = FirstMiss p w i t × (t ≤ s)
Fixes p w s (Holds a b) = NoMissBy p w s × ((k : ℕ) × FirstAgreement p w k × (a ≡ boundary p k) × (b ≡ boundary p (suc k)) × (b ≤ s))
Fixes p w s (Running u) = NoMissBy p w s × ((k : ℕ) → boundary p (suc k) ≤ s → ¬ Agree p w k) × (u ≡ s)

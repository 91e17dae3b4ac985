-- The running set of the last slot.
use Rattle.std.specs.Prelude.{◌≡◌, ℕ, ◌+◌}
use Rattle.schedule.specs.Plan.{Plan, plain}
use Rattle.schedule.specs.Schedule.{has_cpu, config}
use Rattle.policy.specs.Sets.{word_of}

-- the word of the tasks that ran in the slot before instant s, a bit for each; 0 before the first slot
pub record LastSet (p : Plan) (m s set : ℕ) : Type 0 where
  pub none : s ≡ 0 → set ≡ 0
  pub some : (t : ℕ) → s ≡ t + 1 → set ≡ word_of (has_cpu p m t (config p (plain p m) t)) 32

-- What an instant makes of one place of the table: the rules of the endless schedule, read off the figures in the place.
use Rattle.std.specs.Prelude.{◌≡◌, ℕ, ◌-◌, ◌<◌, Bool, false, cond, ◌&&◌, is_some, Option, ◌==◌, nat_le, nat_lt}
use Rattle.task.specs.declared.entry.Entry.{Entry}
use Rattle.policy.specs.Ages.{age_of}
use Rattle.policy.specs.Plans.{offset_of, time_of, deadline_of}

-- a job is released at t
abbrev pub releases : Option Entry → ℕ → Bool
releases o t = nat_le (offset_of o) t && age_of o t == 0

-- t is the deadline of a job
abbrev pub is_due : Option Entry → ℕ → Bool
is_due o t = is_some o && (nat_le (deadline_of o) t && releases o (t - deadline_of o))

-- rules 1 and 2 at t, of a job with r left
abbrev pub opens : Option Entry → (t r : ℕ) → ℕ
opens o t r = cond (is_some o && releases o t) (time_of o) (cond (is_due o t) 0 r)

-- rule 1 at t finds a job with r left that misses its deadline
abbrev pub misses : Option Entry → (t r : ℕ) → Bool
misses o t r = is_due o t && nat_lt 0 r

-- at t no job is released
abbrev pub NoRelease : Option Entry → ℕ → Type 0
NoRelease o t = (is_some o && releases o t) ≡ false

-- at t no job is released, and t is no job's deadline
pub record Calm (o : Option Entry) (t : ℕ) : Type 0 where
  pub no_release : NoRelease o t
  pub no_deadline : is_due o t ≡ false

-- every instant after t and before u is calm in the place
abbrev pub CalmUntil : Option Entry → (t u : ℕ) → Type 0
CalmUntil o t u = (v : ℕ) → t < v → v < u → Calm o v

-- The endless schedule of a plan, by its three rules.
use Rattle.std.specs.Prelude.{◌≡◌, ℕ, zero, suc, ◌+◌, ◌-◌, ◌*◌, ◌%◌, ◌<◌, Bool, true, cond, ◌&&◌, ◌==◌, nat_le, nat_lt}
use Rattle.schedule.specs.Counting.{count_below}
use Rattle.schedule.specs.Plan.{Plan, Way}
use Rattle.schedule.specs.Hyperperiod.{last_offset, hyperperiod}

-- how many slots task i's latest job is old at t
abbrev pub age : Plan → (i t : ℕ) → ℕ
age p i t = (t - p.offset i) % p.period i

-- t ≥ O and t − O is a multiple of T: task i releases a job at t
abbrev pub release_at : Plan → (i t : ℕ) → Bool
release_at p i t = nat_le (p.offset i) t && age p i t == 0

-- task i released a job D slots before t, so that t is that job's deadline
abbrev pub deadline_at : Plan → (i t : ℕ) → Bool
deadline_at p i t = p.present i && (nat_le (p.deadline i) t && release_at p i (t - p.deadline i))

-- Rule 1, at instant t: of a job at its deadline nothing is left (and if something was, it misses its deadline).
abbrev pub after_deadline : Plan → (i t r : ℕ) → ℕ
after_deadline p i t r = cond (deadline_at p i t) 0 r

-- Rule 2, at instant t: a task that releases a job has all of that job left.
abbrev pub after_release : Plan → Way → (i t r : ℕ) → ℕ
after_release p w i t r = cond (w.kept i && release_at p i t) (w.demand i t) r

-- rules 1 and 2 at t, for task i's job with r left
abbrev pub opened : Plan → Way → (i t r : ℕ) → ℕ
opened p w i t r = after_release p w i t (after_deadline p i t r)

-- c says what is left of each job; a job with something left is active
abbrev pub active : Plan → (c : ℕ → ℕ) (i : ℕ) → Bool
active p c i = p.present i && nat_lt 0 (c i)

-- at t, task j's job is active and stands before task i's
abbrev pub stands_ahead : Plan → (t : ℕ) (c : ℕ → ℕ) (i j : ℕ) → Bool
stands_ahead p t c i j = nat_lt 0 (c j) && p.before j (age p j t) i (age p i t)

-- Rule 3, in the slot from t: an active job runs when fewer than m active jobs stand before it ..
abbrev pub has_cpu : Plan → (m t : ℕ) (c : ℕ → ℕ) (i : ℕ) → Bool
has_cpu p m t c i = p.present i && (nat_lt 0 (c i) && nat_lt (count_below p.tasks (stands_ahead p t c i)) m)

-- .. and each job that runs loses 1.
abbrev pub slot : Plan → (m t : ℕ) (c : ℕ → ℕ) (i : ℕ) → ℕ
slot p m t c i = cond (has_cpu p m t c i) (c i - 1) (c i)

-- what task i's job has left when the instant t comes, before rules 1 and 2: nothing at first, and then what the slot left
unfoldable pub left : Plan → Way → (t i : ℕ) → ℕ
left p w zero i = 0
left p w (suc t) i = slot p w.cpus t (λ j. opened p w j t (left p w t j)) i

-- the configuration at t: what each task's job has left after rules 1 and 2
abbrev pub config : Plan → Way → (t i : ℕ) → ℕ
config p w t i = opened p w i t (left p w t i)

-- rule 1 finds task i's job at its deadline t with something left
abbrev pub Misses : Plan → Way → (i t : ℕ) → Type 0
Misses p w i t = (deadline_at p i t ≡ true) × (0 < left p w t i)

-- no job of the endless schedule misses its deadline
abbrev pub NeverMisses : Plan → Way → Type 0
NeverMisses p w = (i t : ℕ) → i < p.tasks → ¬ Misses p w i t

-- boundary k is the instant Omax + k × P
abbrev pub boundary : Plan → ℕ → ℕ
boundary p k = last_offset p + k * hyperperiod p

-- boundaries k and k + 1 agree: their configurations are equal
abbrev pub Agree : Plan → Way → ℕ → Type 0
Agree p w k = (i : ℕ) → i < p.tasks → config p w (boundary p k) i ≡ config p w (boundary p (suc k)) i

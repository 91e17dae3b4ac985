-- What is scheduled, a plan: periodic tasks by number, and the order of their jobs; and the ways to run a plan.
use Rattle.std.specs.Prelude.{◌≡◌, ℕ, ◌<◌, ◌≤◌, Bool, true, false, cond, ◌⊎◌, ◌≢◌}
use Rattle.schedule.specs.Counting.{sum_below}

-- Task numbers are those below `tasks`, and some of them have a task, with its offset O, running time C, deadline D and
-- period T. The age of a job is the number of slots since its release. `before i a j b` says that a job of task i with
-- age a stands before a job of task j with age b.
pub record Plan : Type 0 where
  pub tasks : ℕ
  pub present : ℕ → Bool
  pub offset : ℕ → ℕ
  pub time : ℕ → ℕ
  pub deadline : ℕ → ℕ
  pub period : ℕ → ℕ
  pub before : (i a j b : ℕ) → Bool

-- i is the number of a task
abbrev pub HasTask : Plan → ℕ → Type 0
HasTask p i = (i < p.tasks) × (p.present i ≡ true)

-- 1 ≤ C ≤ D ≤ T for each task. As a deadline never passes the period, a task has at most one unfinished job at a time,
-- so that one number for each task, what is left of its job, tells all of the jobs.
pub record Sound (p : Plan) : Type 0 where
  pub some_time : (i : ℕ) → HasTask p i → 1 ≤ p.time i
  pub time_fits : (i : ℕ) → HasTask p i → p.time i ≤ p.deadline i
  pub one_job : (i : ℕ) → HasTask p i → p.deadline i ≤ p.period i

-- The order of jobs never leaves two tasks level and never turns in a circle.
pub record Ranked (p : Plan) : Type 0 where
  pub of_tasks : (i a j b : ℕ) → p.before i a j b ≡ true → p.present i ≡ true
  pub irreflexive : (i a : ℕ) → p.before i a i a ≡ false
  pub total : (i a j b : ℕ) → HasTask p i → HasTask p j → (i ≢ j) → (p.before i a j b ≡ true) ⊎ (p.before j b i a ≡ true)
  pub transitive : (i a j b k c : ℕ) → p.before i a j b ≡ true → p.before j b k c ≡ true → p.before i a k c ≡ true

-- W, the running times of all tasks together
abbrev pub whole_time : Plan → ℕ
whole_time p = sum_below p.tasks (λ i. cond (p.present i) (p.time i) 0)

-- A way to run a plan: on how many CPUs, which tasks release jobs, and how many slots the job released at t needs.
pub record Way : Type 0 where
  pub cpus : ℕ
  pub kept : ℕ → Bool
  pub demand : (i t : ℕ) → ℕ

-- the plain way on m CPUs: every task, and each job for its task's whole running time
abbrev pub plain : Plan → ℕ → Way
plain p m = record { cpus = m; kept = p.present; demand = λ i t. p.time i }

-- A lighter way: no task but the plan's, some of which may be left out, and no job that needs more than its running time.
pub record Lighter (p : Plan) (w : Way) : Type 0 where
  pub known : (i : ℕ) → i < p.tasks → w.kept i ≡ true → p.present i ≡ true
  pub within : (i t : ℕ) → i < p.tasks → w.demand i t ≤ p.time i

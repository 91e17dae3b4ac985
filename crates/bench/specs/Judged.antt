-- What the verdict of a started bench is, by what was asked of the bench since its start; and its running set.
use Rattle.std.specs.Prelude.{◌≡◌, ℕ, ◌+◌, min, Ok, Err, Option, Result, count_ones}
use Rattle.schedule.specs.Counting.{count_below}
use Rattle.schedule.specs.Plan.{Plan, plain}
use Rattle.schedule.specs.Schedule.{active, has_cpu, config}
use Rattle.schedule.specs.Judgement.{Settles, Promises}
use Rattle.schedule.specs.Verdict as Theory
use Rattle.task.specs.declared.entry.Entry.{Entry}
use Rattle.task.specs.declared.refusal.Refusal.{Refusal}
use Rattle.trial.specs.declared.trial.Trial.{Trial}
use Rattle.trial.specs.LastSet.{LastSet}
use Rattle.trial.specs.Trials.{Fresh}
use Rattle.bench.specs.declared.mode.Mode.{Mode}
use Rattle.bench.specs.declared.mode.Mode.TheVariants.{Running}
use Rattle.bench.specs.declared.verdict.Verdict.{Verdict}
use Rattle.bench.specs.Modes.{meaning}
use Rattle.bench.specs.Steps.{GoesOn}

-- from where it stood at a, runs that were to make n slots in all brought the bench to b
pub data GivenRuns (p : Plan) (a : Mode) : ℕ → Mode → Type 0 where
  none : GivenRuns p a 0 a
  more : {n : ℕ} {b c : Mode} (k : ℕ) → GivenRuns p a n b → GoesOn p b k c → GivenRuns p a (n + k) c

-- the bench was started on m CPUs with the table `at`, and its runs since then were to make n slots in all
pub record SinceStart (p : Plan) (at : ℕ → Option Entry) (m n : ℕ) (mode : Mode) : Type 0 where
  pub trial : Trial
  pub fresh : Fresh at m trial
  pub runs : GivenRuns p (Running trial) n mode

-- The verdict is the one that the endless schedule of plan p on m CPUs fixes for n slots: that of the first instant up to n
-- whose verdict is not "running", or of n; and it keeps the promises of such a verdict.
pub record Judged (p : Plan) (m n : ℕ) (v : Verdict) : Type 0 where
  pub instant : ℕ
  pub settles : Settles p m n instant (meaning v)
  pub promises : Promises p m n (meaning v)

-- it is judged so, and there is no other such verdict
pub record OnlyVerdict (p : Plan) (m n : ℕ) (v : Verdict) : Type 0 where
  pub judged : Judged p m n v
  pub no_other : (s : ℕ) (w : Theory.Verdict) → Settles p m n s w → w ≡ meaning v

-- the same of an answer; a refusal tells no verdict
abbrev pub JudgedAnswer : Plan → (m n : ℕ) → Result Verdict Refusal → Type 0
JudgedAnswer p m n (Ok v) = OnlyVerdict p m n v
JudgedAnswer p m n (Err e) = ⊥

-- The word has a bit for each task that ran in the slot before the verdict's instant, and `count` counts them: it is the
-- number of jobs that ran, which is the number of CPUs, or of active jobs where those are fewer.
pub record SetShown (p : Plan) (m n word count : ℕ) : Type 0 where
  pub instant : ℕ
  pub verdict : Theory.Verdict
  pub settles : Settles p m n instant verdict
  pub last : LastSet p m instant word
  pub counted : count ≡ count_ones word
  pub ran : (t : ℕ) → instant ≡ t + 1 → count ≡ count_below 32 (has_cpu p m t (config p (plain p m) t))
  pub busy : (t : ℕ) → instant ≡ t + 1 → count ≡ min m (count_below 32 (active p (config p (plain p m) t)))

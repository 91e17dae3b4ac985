-- Where a bench stands, and the verdict that it tells then.
use Rattle.std.specs.Prelude.{ℕ, Bool, true, false, cond, Some, None, Option}
use Rattle.schedule.specs.Verdict as Theory
use Rattle.bench.specs.declared.mode.Mode.{Mode}
use Rattle.bench.specs.declared.mode.Mode.TheVariants.{Open, Running, Held, Missed}
use Rattle.bench.specs.declared.verdict.Verdict.{Verdict}
use Rattle.bench.specs.declared.verdict.Verdict.TheVariants.{Holds, Missed as Late, Running as Going}

-- all but open are started
abbrev pub is_started : Mode → Bool
is_started Open = false
is_started (Running a) = true
is_started (Held a first second) = true
is_started (Missed a task instant) = true

-- the verdict of a started bench; of an open one nothing is asked
abbrev pub verdict_of : Mode → Verdict
verdict_of Open = Going 0
verdict_of (Running a) = Going a.instant
verdict_of (Held a first second) = Holds first second
verdict_of (Missed a task instant) = Late task instant

-- the tasks that ran in the last slot, a bit for each
abbrev pub set_of : Mode → ℕ
set_of Open = 0
set_of (Running a) = a.ran
set_of (Held a first second) = a.ran
set_of (Missed a task instant) = a.ran

-- what a started bench tells; an open one tells nothing
abbrev pub while_started : {A : Type 0} → Mode → A → Option A
while_started mode a = cond (is_started mode) (Some a) None

-- what each case of a verdict means
abbrev pub meaning : Verdict → Theory.Verdict
meaning (Holds first second) = Theory.Holds first second
meaning (Late task instant) = Theory.Missed task instant
meaning (Going instant) = Theory.Running instant

-- "holds" and "missed" are decided
abbrev pub is_decided : Verdict → Bool
is_decided (Holds first second) = true
is_decided (Late task instant) = true
is_decided (Going instant) = false

-- A client of the bench: the log of its calls, and what the law of the bench alone tells of their answers.
use Rattle.std.specs.Prelude.{◌≡◌, [], ◌∷◌, ◌++◌, Ok, Err, int_le}
use Rattle.task.specs.declared.entry.Entry.{Entry}
use Rattle.task.specs.declared.refusal.Refusal.TheVariants.{AlreadyStarted, NumberTaken}
use Rattle.sheet.specs.Format.{front, en}
use Rattle.policy.specs.Keys.{time_to_deadline}
use Rattle.bench.specs.declared.verdict.Verdict.TheVariants.{Holds}
use Rattle.bench.specs.Calls.{entering, loading, starting, running_for, halting, asking_verdict, Log, no_calls, and_then}
use Rattle.bench.specs.Law.{Lawful}
use Rattle.examples.specs.declared.client.Answered.{Answered}
use Rattle.examples.specs.Rows.{task}

-- The client's tasks are those of the worked example `staggered`: the first, ..
abbrev pub first : Entry
first = task 0 0 2 3 3

-- .. the second, ..
abbrev pub second : Entry
second = task 1 4 3 4 4

-- .. and the third.
abbrev pub third : Entry
third = task 2 1 3 6 6

-- The client makes a bench, enters the first task, and once more, which is refused, and loads a sheet of the first and the
-- second, for two CPUs; ..
abbrev pub until_load : Answered → Log
until_load a =
    and_then (and_then (and_then no_calls
    (entering first) a.entered)
    (entering first) a.again)
    (loading (front 2 (first ∷ second ∷ []) ++ en)) a.loaded

-- .. it starts, runs twice, and would enter the third task, which is refused; ..
abbrev pub until_early : Answered → Log
until_early a =
    and_then (and_then (and_then (and_then (until_load a)
    (starting 2) a.started)
    (running_for 10) a.ran)
    (running_for 6) a.ran_on)
    (entering third) a.early

-- .. it halts, enters the third task, starts a second time, and runs twice again.
abbrev pub all_calls : Answered → Log
all_calls a =
    and_then (and_then (and_then (and_then (and_then (until_early a)
    halting a.halted)
    (entering third) a.added)
    (starting 2) a.restarted)
    (running_for 28) a.first_run)
    (running_for 12) a.second_run

-- Then it asks for the verdict. All its answers are those that the law of a bench calls for, under the deadline policy.
abbrev pub ByLaw : Answered → Type 0
ByLaw a = Lawful time_to_deadline int_le (all_calls a) asking_verdict a.verdict

-- What they tell: two entries are refused, and the verdict is that of the three tasks, whose steady state comes late (the row
-- `boundaries_two_and_three_are_the_first_that_agree`).
pub record Told (a : Answered) : Type 0 where
  pub again : a.again ≡ Err NumberTaken
  pub early : a.early ≡ Err AlreadyStarted
  pub verdict : a.verdict ≡ Ok (Holds 28 40)

-- The law alone tells it, of any answers to these calls.
abbrev pub LawTells : Type 0
LawTells = (a : Answered) → ByLaw a → Told a

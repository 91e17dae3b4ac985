-- The table of worked examples. Each row has a name that says what it shows; above it stands the name that docs/RULES.md gives
-- the example.
use Rattle.std.specs.Prelude.{ℕ, ◌+◌, true, false, List, [], ◌∷◌}
use Rattle.std.specs.List.{AllByRecursion}
use Rattle.schedule.specs.Verdict.{Missed, Holds, Running}
use Rattle.task.specs.declared.entry.Entry.{Entry}
use Rattle.examples.specs.Policies.{Deadline, Rank, HeavyFirstOver}
use Rattle.examples.specs.Kinds.{Row, VerdictAfter, LeftAt, RunningFrom, HeavyAt, AllHeavyAt, NoneHeavyAt, MayStart, TooLongToStart, Right}

-- a task by its number, which is its rank too and picks the letter that names it, and its offset O, running time C, deadline D
-- and period T
abbrev pub task : (number O C D T : ℕ) → Entry
task i O C D T = record { number = i; name = (65 + i) ∷ 32 ∷ 32 ∷ 32 ∷ 32 ∷ 32 ∷ 32 ∷ 32 ∷ []; rank = i; offset = O; runtime = C; deadline = D; period = T }

-- A full CPU: a job that finishes at the instant of its deadline is in time.
abbrev pub a_full_cpu_holds : Row
a_full_cpu_holds = VerdictAfter Deadline 1 (task 0 0 1 1 1 ∷ []) 1 (Holds 0 1)

-- Two full tasks on one CPU, and three.
abbrev pub two_full_tasks_miss_on_one_cpu : Row
two_full_tasks_miss_on_one_cpu = VerdictAfter Deadline 1 (task 0 0 1 1 1 ∷ task 1 0 1 1 1 ∷ []) 1 (Missed 1 1)

abbrev pub of_two_late_jobs_the_lower_number_is_named : Row
of_two_late_jobs_the_lower_number_is_named = VerdictAfter Deadline 1 (task 0 0 1 1 1 ∷ task 1 0 1 1 1 ∷ task 2 0 1 1 1 ∷ []) 1 (Missed 1 1)

-- Two full tasks on two CPUs.
abbrev pub two_full_tasks_hold_on_two_cpus : Row
two_full_tasks_hold_on_two_cpus = VerdictAfter Deadline 2 (task 0 0 1 1 1 ∷ task 1 0 1 1 1 ∷ []) 1 (Holds 0 1)

-- A heavy task beside two light ones: two CPUs have more than enough time for all.
abbrev pub light_and_heavy : List Entry
light_and_heavy = task 0 0 1 4 4 ∷ task 1 0 1 4 4 ∷ task 2 0 5 5 5 ∷ []

abbrev pub by_deadlines_light_tasks_starve_a_heavy_one : Row
by_deadlines_light_tasks_starve_a_heavy_one = VerdictAfter Deadline 2 light_and_heavy 5 (Missed 2 5)

-- The heavy task first.
abbrev pub with_heavy_tasks_first_all_hold : Row
with_heavy_tasks_first_all_hold = VerdictAfter (HeavyFirstOver 1 2 Deadline) 2 light_and_heavy 20 (Holds 0 20)

-- A late steady state. Two hyperperiods past the largest offset are not enough: at boundaries 0, 1 and 2, which are at 4, 16
-- and 28, the third task has more and more left, and only at boundary 3 as much as before.
abbrev pub staggered : List Entry
staggered = task 0 0 2 3 3 ∷ task 1 4 3 4 4 ∷ task 2 1 3 6 6 ∷ []

abbrev pub boundaries_two_and_three_are_the_first_that_agree : Row
boundaries_two_and_three_are_the_first_that_agree = VerdictAfter Deadline 2 staggered 40 (Holds 28 40)

abbrev pub nothing_is_left_of_the_third_at_boundary_zero : Row
nothing_is_left_of_the_third_at_boundary_zero = LeftAt Deadline 2 staggered 4 (1 ∷ 3 ∷ 0 ∷ [])

abbrev pub one_slot_is_left_of_the_third_at_boundary_one : Row
one_slot_is_left_of_the_third_at_boundary_one = LeftAt Deadline 2 staggered 16 (1 ∷ 3 ∷ 1 ∷ [])

abbrev pub two_slots_are_left_of_the_third_at_boundary_two : Row
two_slots_are_left_of_the_third_at_boundary_two = LeftAt Deadline 2 staggered 28 (1 ∷ 3 ∷ 2 ∷ [])

abbrev pub as_much_is_left_at_boundary_three_as_at_two : Row
as_much_is_left_at_boundary_three_as_at_two = LeftAt Deadline 2 staggered 40 (1 ∷ 3 ∷ 2 ∷ [])

-- A short deadline beside a long one.
abbrev pub patient_and_urgent : List Entry
patient_and_urgent = task 0 0 2 4 4 ∷ task 1 0 1 1 2 ∷ []

abbrev pub by_deadlines_the_urgent_task_goes_first_and_all_hold : Row
by_deadlines_the_urgent_task_goes_first_and_all_hold = VerdictAfter Deadline 1 patient_and_urgent 4 (Holds 0 4)

-- Policies differ.
abbrev pub by_ranks_the_urgent_task_waits_and_misses : Row
by_ranks_the_urgent_task_waits_and_misses = VerdictAfter Rank 1 patient_and_urgent 1 (Missed 1 1)

-- An older job due sooner: were keys kept as they are at the release, the first task's second job would go before the second
-- task's first, which would miss.
abbrev pub the_key_of_a_job_follows_its_age : Row
the_key_of_a_job_follows_its_age = VerdictAfter Deadline 1 (task 0 0 2 4 4 ∷ task 1 0 3 6 6 ∷ []) 12 (Holds 0 12)

-- Two equal tasks in turn.
abbrev pub sharing : List Entry
sharing = task 0 0 1 2 2 ∷ task 1 0 1 2 2 ∷ []

abbrev pub of_two_level_jobs_the_lower_number_runs_first : Row
of_two_level_jobs_the_lower_number_runs_first = RunningFrom Deadline 1 sharing 0 1

abbrev pub in_the_next_slot_the_higher_number_runs : Row
in_the_next_slot_the_higher_number_runs = RunningFrom Deadline 1 sharing 1 2

abbrev pub two_equal_tasks_in_turn_hold : Row
two_equal_tasks_in_turn_hold = VerdictAfter Deadline 1 sharing 2 (Holds 0 2)

-- An offset before the first boundary.
abbrev pub at_its_offset_there_is_only_the_first_boundary : Row
at_its_offset_there_is_only_the_first_boundary = VerdictAfter Deadline 1 (task 0 3 1 1 1 ∷ []) 3 (Running 3)

abbrev pub a_period_later_two_boundaries_agree : Row
a_period_later_two_boundaries_agree = VerdictAfter Deadline 1 (task 0 3 1 1 1 ∷ []) 4 (Holds 3 4)

-- Half a CPU is light.
abbrev pub a_task_at_the_threshold_is_light : Row
a_task_at_the_threshold_is_light = HeavyAt 1 2 (task 0 0 1 2 2) false

abbrev pub a_task_above_the_threshold_is_heavy : Row
a_task_above_the_threshold_is_heavy = HeavyAt 1 2 (task 2 0 5 5 5) true

-- Thresholds at the ends: at 0 / 1 and at 1 / 1.
abbrev pub at_threshold_zero_every_task_is_heavy : Row
at_threshold_zero_every_task_is_heavy = AllHeavyAt 0 1

abbrev pub at_threshold_zero_even_the_lightest_task_is_heavy : Row
at_threshold_zero_even_the_lightest_task_is_heavy = HeavyAt 0 1 (task 1 0 1 60000 60000) true

abbrev pub at_threshold_one_no_task_is_heavy : Row
at_threshold_one_no_task_is_heavy = NoneHeavyAt 1 1

abbrev pub at_threshold_one_not_even_a_full_task_is_heavy : Row
at_threshold_one_not_even_a_full_task_is_heavy = HeavyAt 1 1 (task 2 0 5 5 5) false

-- The longest hyperperiods: at most 10,000,000.
abbrev pub a_hyperperiod_just_short_enough_starts : Row
a_hyperperiod_just_short_enough_starts = MayStart 1 (task 0 0 1 3161 3161 ∷ task 1 0 1 3162 3162 ∷ []) 9995082

abbrev pub a_hyperperiod_just_too_long_is_refused : Row
a_hyperperiod_just_too_long_is_refused = TooLongToStart 1 (task 0 0 1 3162 3162 ∷ task 1 0 1 3163 3163 ∷ []) 10001406

-- all worked examples
abbrev pub rows : List Row
rows =
    a_full_cpu_holds
    ∷ two_full_tasks_miss_on_one_cpu
    ∷ of_two_late_jobs_the_lower_number_is_named
    ∷ two_full_tasks_hold_on_two_cpus
    ∷ by_deadlines_light_tasks_starve_a_heavy_one
    ∷ with_heavy_tasks_first_all_hold
    ∷ boundaries_two_and_three_are_the_first_that_agree
    ∷ nothing_is_left_of_the_third_at_boundary_zero
    ∷ one_slot_is_left_of_the_third_at_boundary_one
    ∷ two_slots_are_left_of_the_third_at_boundary_two
    ∷ as_much_is_left_at_boundary_three_as_at_two
    ∷ by_deadlines_the_urgent_task_goes_first_and_all_hold
    ∷ by_ranks_the_urgent_task_waits_and_misses
    ∷ the_key_of_a_job_follows_its_age
    ∷ of_two_level_jobs_the_lower_number_runs_first
    ∷ in_the_next_slot_the_higher_number_runs
    ∷ two_equal_tasks_in_turn_hold
    ∷ at_its_offset_there_is_only_the_first_boundary
    ∷ a_period_later_two_boundaries_agree
    ∷ a_task_at_the_threshold_is_light
    ∷ a_task_above_the_threshold_is_heavy
    ∷ at_threshold_zero_every_task_is_heavy
    ∷ at_threshold_zero_even_the_lightest_task_is_heavy
    ∷ at_threshold_one_no_task_is_heavy
    ∷ at_threshold_one_not_even_a_full_task_is_heavy
    ∷ a_hyperperiod_just_short_enough_starts
    ∷ a_hyperperiod_just_too_long_is_refused
    ∷ []

-- Every worked example is right.
abbrev pub AllRight : Type 0
AllRight = AllByRecursion Right rows

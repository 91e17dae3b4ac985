-- The number of each refusal; 3 to 7 are the numbers of what can be wrong with the form of a sheet.
use Rattle.std.specs.Prelude.{ℕ}
use Rattle.task.specs.declared.refusal.Refusal.{Refusal}
use Rattle.task.specs.declared.refusal.Refusal.TheVariants.{AlreadyStarted, NotStarted, CpusOutOfRange, NumberTooLarge, NumberTaken, NoSuchTask, BadName, NameTaken, PeriodOutOfRange, DeadlineOutOfRange, RuntimeOutOfRange, OffsetTooLarge, NoTasks, HyperperiodTooLong, BadThreshold, BufferTooShort}

abbrev pub number_of : Refusal → ℕ
number_of AlreadyStarted = 1
number_of NotStarted = 2
number_of CpusOutOfRange = 8
number_of NumberTooLarge = 9
number_of NumberTaken = 10
number_of NoSuchTask = 11
number_of BadName = 12
number_of NameTaken = 13
number_of PeriodOutOfRange = 14
number_of DeadlineOutOfRange = 15
number_of RuntimeOutOfRange = 16
number_of OffsetTooLarge = 17
number_of NoTasks = 18
number_of HyperperiodTooLong = 19
number_of BadThreshold = 20
number_of BufferTooShort = 21

-- The number of each refusal, as document 01's table and the items after it give it.
use Rattle.std.specs.Prelude.{ℕ, Result, Ok, Err}
use Rattle.rules.specs.declared.Refusal.{Refusal}
use Rattle.rules.specs.declared.Refusal.TheVariants.{NoTenant, Dry, TooMany, NotRising, TooManyAwaited, NoPlace, NoSerial, TooDear, Absent, WrongState, NothingDue, TooMuchFuel, WrongShares, UnsoundBlock, UnknownTag, PastTheEnd, UnsuitedLength, Misplaced, TooLong}

abbrev pub number_of : Refusal → ℕ
number_of NoTenant = 1
number_of Dry = 2
number_of TooMany = 3
number_of NotRising = 4
number_of TooManyAwaited = 6
number_of NoPlace = 7
number_of NoSerial = 8
number_of TooDear = 9
number_of Absent = 10
number_of WrongState = 11
number_of NothingDue = 12
number_of TooMuchFuel = 13
number_of WrongShares = 14
number_of UnsoundBlock = 15
number_of UnknownTag = 20
number_of PastTheEnd = 21
number_of UnsuitedLength = 22
number_of Misplaced = 23
number_of TooLong = 24

-- what refuses, as the rows of a call give it: 0 where nothing does
abbrev pub refused_by : {A : Type 0} → Result A Refusal → ℕ
refused_by (Ok x) = 0
refused_by (Err why) = number_of why

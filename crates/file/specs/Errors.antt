-- The number of each refusal, and the code that a check's result stands for.
use Rattle.std.specs.Prelude.{ℕ, Result, Ok, Err}
use Rattle.file.specs.declared.error.FileError.{FileError}
use Rattle.file.specs.declared.error.FileError.TheVariants.{TooShort, TooLong, RingSize, Modulus, SizeAndModulus, OrderBits, Truncated, OddSchedule, MarksTooShort, OutTooShort, ReportTooShort}

-- The refusal's number in the table of codes.
abbrev pub number_of : FileError → ℕ
number_of TooShort = 1
number_of TooLong = 2
number_of RingSize = 3
number_of Modulus = 4
number_of SizeAndModulus = 5
number_of OrderBits = 6
number_of Truncated = 7
number_of OddSchedule = 8
number_of MarksTooShort = 9
number_of OutTooShort = 10
number_of ReportTooShort = 11

-- The code of an answer: 0 where nothing is refused.
abbrev pub code_in : {A : Type 0} → Result A FileError → ℕ
code_in (Ok _) = 0
code_in (Err e) = number_of e

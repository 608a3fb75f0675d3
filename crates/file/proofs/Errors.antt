-- What a refusal's number is not.
use Prim.Native.Nat.{◌<◌}
use native.Mathlib.Omega.{arith}
use Rattle.file.specs.declared.error.FileError.{FileError}
use Rattle.file.specs.declared.error.FileError.TheVariants.{TooShort, TooLong, RingSize, Modulus, SizeAndModulus, OrderBits, Truncated, OddSchedule, MarksTooShort, OutTooShort, ReportTooShort}
use Rattle.file.specs.Errors.{number_of}

-- No refusal has the number 0.
pub number_pos : (e : FileError) → 0 < number_of e
number_pos TooShort = omega arith
number_pos TooLong = omega arith
number_pos RingSize = omega arith
number_pos Modulus = omega arith
number_pos SizeAndModulus = omega arith
number_pos OrderBits = omega arith
number_pos Truncated = omega arith
number_pos OddSchedule = omega arith
number_pos MarksTooShort = omega arith
number_pos OutTooShort = omega arith
number_pos ReportTooShort = omega arith

-- Only: does it race? The answer for a whole file where no buffer is lent: the file's code and, of a lawful file, the racing entry and its
-- partner, which are two of the report's numbers.
use Rattle.std.specs.Prelude.{◌≡◌, List, ℕ, ◌+◌, ◌*◌, ◌^◌, get_or}
use Rattle.model.specs.File.{schedule_of}
use Rattle.model.specs.Codes.{file_code}
use Rattle.model.specs.Run.{Result, State, Runs, shape_of, fresh}
use Rattle.model.specs.Report.{numbers_of}

-- The places of the two numbers among the report's, from 0.
abbrev pub race_place : ℕ
race_place = 8

abbrev pub partner_place : ℕ
partner_place = 9

-- The two numbers are those of the report of a run over the file's schedule.
pub record RaceTold (f : List ℕ) (entry partner : ℕ) : Type 0 where
  pub results : List Result
  pub end : State
  pub run : Runs (shape_of f) (fresh f) (schedule_of f) results end
  pub entry_is : entry ≡ get_or (numbers_of f results end) race_place 0
  pub partner_is : partner ≡ get_or (numbers_of f results end) partner_place 0

-- The code is the file's own. Of a lawful file the two numbers are told; of any other both are 0.
pub record RaceAnswer (f : List ℕ) (code entry partner : ℕ) : Type 0 where
  pub code_is : code ≡ file_code f
  pub lawful : code ≡ 0 → RaceTold f entry partner
  pub no_entry : ¬ (code ≡ 0) → entry ≡ 0
  pub no_partner : ¬ (code ≡ 0) → partner ≡ 0

-- The answer as one number: the code in its lowest 8 bits, the racing entry in the 24 bits above them, the partner in the 24 above those.
abbrev pub packed : (code entry partner : ℕ) → ℕ
packed code entry partner = code + 2 ^ 8 * entry + 2 ^ 32 * partner

-- The number that a C host is handed.
pub record RaceOutcome (f : List ℕ) (r : ℕ) : Type 0 where
  pub code : ℕ
  pub entry : ℕ
  pub partner : ℕ
  pub answer : RaceAnswer f code entry partner
  pub packed_is : r ≡ packed code entry partner

-- The answer of the race question, case by case: which entry and which partner it tells (its code is `code_in` of the file's refusals), and the number
-- that a C host is handed.
use Rattle.std.specs.Prelude.{ℕ, ◌<◌, Option, Some, None, Result, Ok, Err, IfSome}
use Rattle.model.specs.RaceAnswer.{packed}
use Rattle.file.specs.declared.error.FileError.{FileError}
use Rattle.ring.specs.declared.race.DataRace.{DataRace}

-- The two numbers that tell of a race, both 0 where there was none.
abbrev pub race_entry : Option DataRace → ℕ
race_entry None = 0
race_entry (Some race) = race.entry

abbrev pub race_partner : Option DataRace → ℕ
race_partner None = 0
race_partner (Some race) = race.partner

-- Where there was a race, its entry has a number: entries are counted from 1.
abbrev pub IsRace : Option DataRace → Type 0
IsRace race = IfSome race (λ r. 0 < r.entry)

-- The two numbers of an answer.
abbrev pub entry_in : Result (Option DataRace) FileError → ℕ
entry_in (Ok race) = race_entry race
entry_in (Err refused) = 0

abbrev pub partner_in : Result (Option DataRace) FileError → ℕ
partner_in (Ok race) = race_partner race
partner_in (Err refused) = 0

-- All cases as one number, where a refusal is told by its code.
abbrev pub packed_of : Result (Option DataRace) ℕ → ℕ
packed_of (Ok race) = packed 0 (race_entry race) (race_partner race)
packed_of (Err code) = packed code 0 0

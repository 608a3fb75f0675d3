-- The race question tells what a full run tells: for every file, whatever buffers the full run was lent.
use Rattle.std.specs.Prelude.{◌≡◌, List, ℕ, ◌/◌, ◌%◌, ◌^◌, ◌≤◌, ◌<◌}
use Rattle.model.specs.Outcome.{Outcome}
use Rattle.model.specs.RaceAnswer.{RaceAnswer, RaceOutcome}
use Rattle.promises.specs.Call.{race_entry, race_partner}

-- The codes from here on are about lent buffers alone.
abbrev pub first_buffer_code : ℕ
first_buffer_code = 9

-- THE CODE of the question is that of a full run wherever that is 0 to 8; where a buffer of the full run was too short it is 0.
abbrev pub RaceCode : Type 0
RaceCode = (f marks out report : List ℕ) (r : ℕ) (marks' out' report' : List ℕ) → Outcome f marks out report r marks' out' report'
    → (code entry partner : ℕ) → RaceAnswer f code entry partner → (r < first_buffer_code → code ≡ r) × (first_buffer_code ≤ r → code ≡ 0)

-- THE TWO NUMBERS are those that a full run writes into its report.
abbrev pub RaceNumbers : Type 0
RaceNumbers = (f marks out report : List ℕ) (r : ℕ) (marks' out' report' : List ℕ) → Outcome f marks out report r marks' out' report' → r ≡ 0
    → (code entry partner : ℕ) → RaceAnswer f code entry partner → (entry ≡ race_entry report') × (partner ≡ race_partner report')

-- THE ONE NUMBER that a C host is handed comes apart into the three by its bits: 0 to 7, 8 to 31, 32 to 55.
abbrev pub RaceUnpacks : Type 0
RaceUnpacks = (f : List ℕ) (r : ℕ) (o : RaceOutcome f r)
    → (r % 2 ^ 8 ≡ o.code) × (r / 2 ^ 8 % 2 ^ 24 ≡ o.entry) × (r / 2 ^ 32 % 2 ^ 24 ≡ o.partner)

-- Two parts of a file's table of codes: its first rows, about the file's length, and its last, about its ends.
use Rattle.std.specs.Prelude.{◌||◌, List, [], ◌∷◌, ℕ, ◌-◌, ◌%◌, eqb, ltb}
use Rattle.model.specs.Limits.{most_file_bytes}
use Rattle.model.specs.Codes.{Row, row}

-- Of a file of n bytes, which has this many at least.
abbrev pub length_table : (n least : ℕ) → List Row
length_table n least = row 1 (ltb n least) ∷ row 2 (ltb most_file_bytes n) ∷ []

-- Of a file of n bytes, whose sizes end at one place and whose schedule begins at another.
abbrev pub end_table : (n sizes at : ℕ) → List Row
end_table n sizes at = row 7 (ltb n sizes || ltb n at) ∷ row 8 (eqb ((n - at) % 2) 1) ∷ []

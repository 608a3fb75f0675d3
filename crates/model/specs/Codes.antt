-- The codes for a file: a table whose rows are tried in order. It is stated for all lists of bytes and all buffer lengths.
use Rattle.std.specs.Prelude.{◌≡◌, Bool, false, cond, ◌||◌, not, List, [], ◌∷◌, ◌++◌, ℕ, ◌-◌, ◌%◌, eqb, ltb, length}
use Rattle.model.specs.Limits.{most_slots, least_modulus, most_modulus, most_order_bits, header_bytes, most_file_bytes, report_bytes}
use Rattle.model.specs.File.{total, ring_size, modulus_of, order_bits, pop_sizes, sizes_end, schedule_at, schedule_of}

-- A row: its code, and whether it applies.
pub record Row : Type 0 where
  pub code : ℕ
  pub applies : Bool

abbrev pub row : ℕ → Bool → Row
row n b = record { code = n; applies = b }

-- Is m a divisor of M?
abbrev pub divides : ℕ → ℕ → Bool
divides m M = eqb (M % m) 0

-- The rows about a ring, whose eight bytes are the first of f.
abbrev pub ring_table : List ℕ → List Row
ring_table f =
    row 3 (eqb (ring_size f) 0 || ltb most_slots (ring_size f))
    ∷ row 4 (ltb (modulus_of f) least_modulus || ltb most_modulus (modulus_of f))
    ∷ row 5 (not (divides (ring_size f) (modulus_of f)) || eqb (modulus_of f) (ring_size f))
    ∷ row 6 (ltb most_order_bits (order_bits f))
    ∷ []

-- The rows about the file alone.
unfoldable pub file_table : List ℕ → List Row
file_table f =
    row 1 (ltb (length f) header_bytes)
    ∷ row 2 (ltb most_file_bytes (length f))
    ∷ (ring_table f ++ (
    row 7 (ltb (length f) (sizes_end f) || ltb (length f) (schedule_at f))
    ∷ row 8 (eqb ((length f - schedule_at f) % 2) 1)
    ∷ []
    ))

-- The rows about the lengths of the three lent buffers.
unfoldable pub buffer_table : List ℕ → ℕ → ℕ → ℕ → List Row
buffer_table f marks out report =
    row 9 (ltb marks (length (schedule_of f)))
    ∷ row 10 (ltb out (total (pop_sizes f)))
    ∷ row 11 (ltb report report_bytes)
    ∷ []

-- The whole table.
unfoldable pub table : List ℕ → ℕ → ℕ → ℕ → List Row
table f marks out report = file_table f ++ buffer_table f marks out report

-- The code of the first row that applies; 0 where none does.
abbrev pub first_of : List Row → ℕ
first_of [] = 0
first_of (x ∷ xs) = cond x.applies x.code (first_of xs)

-- Does the row with code k apply?
abbrev pub applies : List Row → ℕ → Bool
applies [] k = false
applies (x ∷ xs) k = cond (eqb k x.code) x.applies (applies xs k)

-- The code for a file and for buffers of these lengths.
unfoldable pub code_of : List ℕ → ℕ → ℕ → ℕ → ℕ
code_of f marks out report = first_of (table f marks out report)

-- The code for a file alone, where no buffer is lent: 0, or 1 to 8.
abbrev pub file_code : List ℕ → ℕ
file_code f = first_of (file_table f)

-- A lawful file: none of the codes 1 to 8 applies.
abbrev pub Lawful : List ℕ → Type 0
Lawful f = file_code f ≡ 0

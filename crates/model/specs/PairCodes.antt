-- The codes for a pair's file: rows 3 to 6 stand there twice, for the first ring and then for the second. It is stated for all lists of bytes and
-- all buffer lengths.
use Rattle.std.specs.Prelude.{◌≡◌, ◌||◌, List, [], ◌∷◌, ◌++◌, ℕ, ◌*◌, ◌-◌, ◌%◌, eqb, ltb, length}
use Rattle.model.specs.Limits.{header_bytes, most_file_bytes, report_bytes}
use Rattle.model.specs.File.{total}
use Rattle.model.specs.Codes.{Row, row, ring_table, first_of}
use Rattle.model.specs.Run.{first_ring}
use Rattle.model.specs.PairFile.{second_ring, header_of, pop_sizes_of, pair_sizes_end, pair_schedule_at, pair_schedule_of}

-- The rows about the file alone.
unfoldable pub pair_file_table : List ℕ → List Row
pair_file_table f =
    row 1 (ltb (length f) (2 * header_bytes))
    ∷ row 2 (ltb most_file_bytes (length f))
    ∷ (ring_table (header_of first_ring f) ++ (ring_table (header_of second_ring f) ++ (
    row 7 (ltb (length f) (pair_sizes_end f) || ltb (length f) (pair_schedule_at f))
    ∷ row 8 (eqb ((length f - pair_schedule_at f) % 2) 1)
    ∷ []
    )))

-- The rows about the lengths of the five lent buffers.
unfoldable pub pair_buffer_table : List ℕ → (marks out₁ report₁ out₂ report₂ : ℕ) → List Row
pair_buffer_table f marks out₁ report₁ out₂ report₂ =
    row 9 (ltb marks (length (pair_schedule_of f)))
    ∷ row 10 (ltb out₁ (total (pop_sizes_of first_ring f)) || ltb out₂ (total (pop_sizes_of second_ring f)))
    ∷ row 11 (ltb report₁ report_bytes || ltb report₂ report_bytes)
    ∷ []

-- The whole table.
unfoldable pub pair_table : List ℕ → (marks out₁ report₁ out₂ report₂ : ℕ) → List Row
pair_table f marks out₁ report₁ out₂ report₂ = pair_file_table f ++ pair_buffer_table f marks out₁ report₁ out₂ report₂

-- The code for a pair's file and for buffers of these lengths.
unfoldable pub pair_code_of : List ℕ → (marks out₁ report₁ out₂ report₂ : ℕ) → ℕ
pair_code_of f marks out₁ report₁ out₂ report₂ = first_of (pair_table f marks out₁ report₁ out₂ report₂)

-- A lawful pair's file: none of the codes 1 to 8 applies.
abbrev pub LawfulPair : List ℕ → Type 0
LawfulPair f = first_of (pair_file_table f) ≡ 0

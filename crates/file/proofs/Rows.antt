-- The tables of codes in the order in which the code tries their parts: the file's length, its rings, its ends, the buffers.
use mathlib.Core.Path.{◌≡◌, sym, ◌∙◌}
use mathlib.Core.List.{List, ◌++◌}
use Prim.Native.Nat.{ℕ, ◌*◌}
use native.Mathlib.Omega.{arith}
use lib.ListN.{length, drop}
use Rattle.model.specs.Limits.{header_bytes}
use Rattle.model.specs.File.{sizes_end, schedule_at}
use Rattle.model.specs.Codes.{Row, ring_table, file_table, first_of, file_code}
use Rattle.model.specs.PairFile.{pair_sizes_end, pair_schedule_at}
use Rattle.model.specs.PairCodes.{pair_file_table, pair_buffer_table, pair_table, pair_code_of}
use Rattle.model.proofs.Table.{Nonzero, none_applies, first_append, first_front}
use Rattle.file.specs.Rows.{length_table, end_table}

-- Where none of the first rows applies, the code is that of the others.
passed : (xs ys : List Row) → Nonzero xs → 0 ≡ first_of xs → first_of ys ≡ first_of (xs ++ ys)
passed xs ys n z = sym (first_append xs ys (none_applies xs n (sym z)))

-- Of a file whose length is good, the code is that of its ring where that is not 0.
pub ring_first : (f : List ℕ) → 0 ≡ first_of (length_table (length f) header_bytes) → ¬ (first_of (ring_table f) ≡ 0) → first_of (ring_table f) ≡ file_code f
unfolding file_table
ring_first f long h =
    let ends = end_table (length f) (sizes_end f) (schedule_at f) in
    first_front (ring_table f) ends h ∙ passed (length_table (length f) header_bytes) (ring_table f ++ ends) (omega arith) long

-- Of a pair's file whose length is good: the first ring's code, then the second's, then that of its ends.
module _ (f : List ℕ) (long : 0 ≡ first_of (length_table (length f) (2 * header_bytes))) where
  abbrev ends : List Row
  ends = end_table (length f) (pair_sizes_end f) (pair_schedule_at f)

  abbrev second : List Row
  second = ring_table (drop header_bytes f)

  from_first : first_of (ring_table f ++ (second ++ ends)) ≡ first_of (pair_file_table f)
  unfolding pair_file_table
  from_first = passed (length_table (length f) (2 * header_bytes)) (ring_table f ++ (second ++ ends)) (omega arith) long

  from_second : 0 ≡ first_of (ring_table f) → first_of (second ++ ends) ≡ first_of (pair_file_table f)
  from_second z = passed (ring_table f) (second ++ ends) (omega arith) z ∙ from_first

  pub pair_ring_first : ¬ (first_of (ring_table f) ≡ 0) → first_of (ring_table f) ≡ first_of (pair_file_table f)
  pair_ring_first h = first_front (ring_table f) (second ++ ends) h ∙ from_first

  pub second_refused : 0 ≡ first_of (ring_table f) → ¬ (first_of second ≡ 0) → first_of second ≡ first_of (pair_file_table f)
  second_refused z h = first_front second ends h ∙ from_second z

  pub pair_ends : 0 ≡ first_of (ring_table f) → 0 ≡ first_of second → first_of ends ≡ first_of (pair_file_table f)
  pair_ends z h = passed second ends (omega arith) h ∙ from_second z

-- With buffers: the file's own code comes first, then theirs.
module _ (f : List ℕ) (marks out₁ report₁ out₂ report₂ : ℕ) where
  pub pair_file_first : ¬ (first_of (pair_file_table f) ≡ 0) → first_of (pair_file_table f) ≡ pair_code_of f marks out₁ report₁ out₂ report₂
  unfolding pair_code_of pair_table
  pair_file_first h = first_front (pair_file_table f) (pair_buffer_table f marks out₁ report₁ out₂ report₂) h

  clear : 0 ≡ first_of (pair_file_table f) → first_of (pair_buffer_table f marks out₁ report₁ out₂ report₂) ≡ first_of (pair_table f marks out₁ report₁ out₂ report₂)
  unfolding pair_file_table pair_table
  clear z = passed (pair_file_table f) (pair_buffer_table f marks out₁ report₁ out₂ report₂) (omega arith) z

  pub pair_buffers : 0 ≡ first_of (pair_file_table f) → first_of (pair_buffer_table f marks out₁ report₁ out₂ report₂) ≡ pair_code_of f marks out₁ report₁ out₂ report₂
  unfolding pair_code_of
  pair_buffers z = clear z

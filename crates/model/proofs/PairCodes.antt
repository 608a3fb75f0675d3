-- Laws of the table of codes for a pair's file: the code is k exactly when a row with code k applies and no row before it does, and what each row
-- says. Codes 3 to 6 stand there twice, so a row is known by its place.
use mathlib.Core.Path.{◌≡◌, refl}
use mathlib.Core.Logic.{◌↔◌, ◌⊎◌}
use mathlib.Core.Bool.{Bool, true, false}
use mathlib.Core.List.{List, [], ◌∷◌, map}
use Prim.Native.Nat.{ℕ, zero, suc, ◌+◌, ◌-◌, ◌%◌, ◌<◌}
use native.Mathlib.Omega.{arith}
use lib.Dec.{ltb}
use lib.ListN.{length}
use Rattle.model.specs.Limits.{most_file_bytes, report_bytes}
use Rattle.model.specs.File.{total, ring_size, modulus_of, order_bits}
use Rattle.model.specs.Codes.{Row}
use Rattle.model.specs.Run.{first_ring}
use Rattle.model.specs.PairFile.{second_ring, header_of, pop_sizes_of, pair_sizes_end, pair_schedule_at, pair_schedule_of}
use Rattle.model.specs.PairCodes.{pair_file_table, pair_buffer_table, pair_table, pair_code_of}
use Rattle.model.proofs.Table.{Clear, First, first_is, clear_first, none_applies}
use Rattle.model.proofs.Says.{either, lt_says, eq_says, size_says, modulus_says, divided_says, orders_say}

-- Does the row at this place apply, the first being at place 0?
abbrev pub applies_at : List Row → ℕ → Bool
applies_at [] i = false
applies_at (x ∷ xs) zero = x.applies
applies_at (x ∷ xs) (suc i) = applies_at xs i

-- What rows 3 to 6 of a ring say, the first of them at this place, of a ring whose eight bytes are the first of f.
pub record RingRows (rows : List Row) (place : ℕ) (f : List ℕ) : Type 0 where
  pub row_3 : (applies_at rows place ≡ true) ↔ ((ring_size f ≡ 0) ⊎ (128 < ring_size f))
  pub row_4 : (applies_at rows (place + 1) ≡ true) ↔ ((modulus_of f < 2) ⊎ (65536 < modulus_of f))
  pub row_5 : (applies_at rows (place + 2) ≡ true) ↔ ((¬ (modulus_of f % ring_size f ≡ 0)) ⊎ (modulus_of f ≡ ring_size f))
  pub row_6 : (applies_at rows (place + 3) ≡ true) ↔ (15 < order_bits f)

-- THE ORDER of the rows, and what each says.
pub record PairRows (f : List ℕ) (rows : List Row) (marks out₁ report₁ out₂ report₂ : ℕ) : Type 0 where
  pub in_order : map (λ (x : Row). x.code) rows ≡ 1 ∷ 2 ∷ 3 ∷ 4 ∷ 5 ∷ 6 ∷ 3 ∷ 4 ∷ 5 ∷ 6 ∷ 7 ∷ 8 ∷ 9 ∷ 10 ∷ 11 ∷ []
  pub row_1 : (applies_at rows 0 ≡ true) ↔ (length f < 16)
  pub row_2 : (applies_at rows 1 ≡ true) ↔ (65536 < length f)
  pub first : RingRows rows 2 (header_of first_ring f)
  pub second : RingRows rows 6 (header_of second_ring f)
  pub row_7 : (applies_at rows 10 ≡ true) ↔ ((length f < pair_sizes_end f) ⊎ (length f < pair_schedule_at f))
  pub row_8 : (applies_at rows 11 ≡ true) ↔ ((length f - pair_schedule_at f) % 2 ≡ 1)
  pub row_9 : (applies_at rows 12 ≡ true) ↔ (marks < length (pair_schedule_of f))
  pub row_10 : (applies_at rows 13 ≡ true) ↔ ((out₁ < total (pop_sizes_of first_ring f)) ⊎ (out₂ < total (pop_sizes_of second_ring f)))
  pub row_11 : (applies_at rows 14 ≡ true) ↔ ((report₁ < 48) ⊎ (report₂ < 48))

module _ (f : List ℕ) (marks out₁ report₁ out₂ report₂ : ℕ) where
  pub pair_rows_say : PairRows f (pair_table f marks out₁ report₁ out₂ report₂) marks out₁ report₁ out₂ report₂
  unfolding pair_table pair_file_table pair_buffer_table
  pair_rows_say = record {
    in_order = refl;
    row_1 = lt_says (length f) 16;
    row_2 = lt_says most_file_bytes (length f);
    first = record {
      row_3 = size_says (header_of first_ring f);
      row_4 = modulus_says (header_of first_ring f);
      row_5 = divided_says (header_of first_ring f);
      row_6 = orders_say (header_of first_ring f);
    };
    second = record {
      row_3 = size_says (header_of second_ring f);
      row_4 = modulus_says (header_of second_ring f);
      row_5 = divided_says (header_of second_ring f);
      row_6 = orders_say (header_of second_ring f);
    };
    row_7 = either (ltb (length f) (pair_sizes_end f)) (ltb (length f) (pair_schedule_at f)) (lt_says (length f) (pair_sizes_end f)) (lt_says (length f) (pair_schedule_at f));
    row_8 = eq_says ((length f - pair_schedule_at f) % 2) 1;
    row_9 = lt_says marks (length (pair_schedule_of f));
    row_10 = either (ltb out₁ (total (pop_sizes_of first_ring f))) (ltb out₂ (total (pop_sizes_of second_ring f))) (lt_says out₁ (total (pop_sizes_of first_ring f))) (lt_says out₂ (total (pop_sizes_of second_ring f)));
    row_11 = either (ltb report₁ report_bytes) (ltb report₂ report_bytes) (lt_says report₁ report_bytes) (lt_says report₂ report_bytes);
  }

  -- CODE k EXACTLY when a row with code k applies and no row before it does.
  pub pair_code_exactly : (k : ℕ) → 0 < k → (pair_code_of f marks out₁ report₁ out₂ report₂ ≡ k) ↔ First k (pair_table f marks out₁ report₁ out₂ report₂)
  unfolding pair_code_of
  pair_code_exactly k l = first_is (pair_table f marks out₁ report₁ out₂ report₂) k l

  -- CODE 0 EXACTLY when no row applies.
  pub pair_code_zero : (pair_code_of f marks out₁ report₁ out₂ report₂ ≡ 0) ↔ Clear (pair_table f marks out₁ report₁ out₂ report₂)
  unfolding pair_code_of pair_table pair_file_table pair_buffer_table
  pair_code_zero = (
    none_applies (pair_table f marks out₁ report₁ out₂ report₂) (omega arith),
    clear_first (pair_table f marks out₁ report₁ out₂ report₂),
  )

-- A lawful pair's file: its numbers are in their ranges; and what code 0 means of a call on it.
use mathlib.Core.Path.{◌≡◌, ◌∙◌}
use mathlib.Core.Bool.{◌||◌}
use mathlib.Core.List.{List, [], ◌∷◌, ◌++◌}
use Prim.Native.Nat.{ℕ, zero, suc, ◌-◌, ◌%◌, ◌≤◌}
use native.Mathlib.Omega.{arith}
use lib.Dec.{eqb, ltb}
use lib.ListN.{length}
use borrow.Author.Tests.{ltb-false, eqb-false, le-ltb, ne_eqb}
use Rattle.order.specs.Trace.{Ring}
use Rattle.order.proofs.Trace.{or_none}
use Rattle.model.specs.Limits.{most_file_bytes, report_bytes}
use Rattle.model.specs.File.{total}
use Rattle.model.specs.Codes.{Row, row, ring_table}
use Rattle.model.specs.Run.{first_ring}
use Rattle.model.specs.PairFile.{second_ring, header_of, pop_sizes_of, pair_sizes_end, pair_schedule_at, pair_schedule_of}
use Rattle.model.specs.PairCodes.{pair_file_table, pair_buffer_table, pair_table, pair_code_of, LawfulPair}
use Rattle.model.proofs.Table.{Clear, clear_first, none_applies, clear_append, clear_parts, first_append}
use Rattle.model.proofs.Ranges.{RingRanges, ring_ranges, ring_clear}

-- THE RANGES that codes 1 to 8 leave.
pub record PairRanges (f : List ℕ) : Type 0 where
  pub header : 16 ≤ length f
  pub bounded : length f ≤ 65536
  pub ring : (r : Ring) → RingRanges (header_of r f)
  pub sizes_in : pair_sizes_end f ≤ length f
  pub bytes_in : pair_schedule_at f ≤ length f
  pub even : (length f - pair_schedule_at f) % 2 ≡ 0

-- The last two rows of the table.
abbrev back_rows : List ℕ → List Row
back_rows f = row 7 (ltb (length f) (pair_sizes_end f) || ltb (length f) (pair_schedule_at f)) ∷ row 8 (eqb ((length f - pair_schedule_at f) % 2) 1) ∷ []

lawful_clear : (f : List ℕ) → LawfulPair f → Clear (pair_file_table f)
unfolding pair_file_table
lawful_clear f h = none_applies (pair_file_table f) (omega arith) h

pub pair_ranges : (f : List ℕ) → LawfulPair f → PairRanges f
unfolding pair_file_table
pair_ranges f h =
    let z = lawful_clear f h in
    let one = clear_parts (ring_table (header_of first_ring f)) (ring_table (header_of second_ring f) ++ back_rows f) z.1.1 in
    let two = clear_parts (ring_table (header_of second_ring f)) (back_rows f) one.1 in
    let c = two.1 in
    let r7 = or_none (ltb (length f) (pair_sizes_end f)) (ltb (length f) (pair_schedule_at f)) c.0 in
    record {
      header = ltb-false (length f) 16 z.0;
      bounded = ltb-false most_file_bytes (length f) z.1.0;
      ring = λ r. elim r as (λ k. RingRanges (header_of k f)) [ zero ↦ ring_ranges (header_of first_ring f) one.0 | suc n ↦ ring_ranges (header_of second_ring f) two.0 ];
      sizes_in = ltb-false (length f) (pair_sizes_end f) r7.0;
      bytes_in = ltb-false (length f) (pair_schedule_at f) r7.1;
      even = omega (arith, eqb-false ((length f - pair_schedule_at f) % 2) 1 c.1.0);
    }

-- A file in these ranges is lawful.
pub ranges_lawful_pair : (f : List ℕ) → PairRanges f → LawfulPair f
unfolding pair_file_table
ranges_lawful_pair f h =
    let v = h.even in
    clear_first (pair_file_table f) (
      le-ltb (length f) 16 h.header,
      (
        le-ltb most_file_bytes (length f) h.bounded,
        clear_append (ring_table (header_of first_ring f)) (ring_table (header_of second_ring f) ++ back_rows f)
            (ring_clear (header_of first_ring f) (h.ring first_ring))
            (clear_append (ring_table (header_of second_ring f)) (back_rows f) (ring_clear (header_of second_ring f) (h.ring second_ring)) (
              rw (le-ltb (length f) (pair_sizes_end f) h.sizes_in) (le-ltb (length f) (pair_schedule_at f) h.bytes_in),
              (ne_eqb ((length f - pair_schedule_at f) % 2) 1 (λ e. omega arith), tt),
            )),
      ),
    )

-- The buffers are long enough.
pub record PairRoom (f : List ℕ) (marks out₁ report₁ out₂ report₂ : ℕ) : Type 0 where
  pub marks_fit : length (pair_schedule_of f) ≤ marks
  pub out₁_fits : total (pop_sizes_of first_ring f) ≤ out₁
  pub report₁_fits : report_bytes ≤ report₁
  pub out₂_fits : total (pop_sizes_of second_ring f) ≤ out₂
  pub report₂_fits : report_bytes ≤ report₂

-- A lawful file and buffers long enough: code 0.
pub lawful_pair_code : (f : List ℕ) (marks out₁ report₁ out₂ report₂ : ℕ) → LawfulPair f → PairRoom f marks out₁ report₁ out₂ report₂
    → pair_code_of f marks out₁ report₁ out₂ report₂ ≡ 0
unfolding pair_code_of pair_table pair_buffer_table
lawful_pair_code f marks out₁ report₁ out₂ report₂ h b =
    first_append (pair_file_table f) (pair_buffer_table f marks out₁ report₁ out₂ report₂) (lawful_clear f h)
    ∙ rw (
      le-ltb marks (length (pair_schedule_of f)) b.marks_fit,
      le-ltb out₁ (total (pop_sizes_of first_ring f)) b.out₁_fits,
      le-ltb out₂ (total (pop_sizes_of second_ring f)) b.out₂_fits,
      le-ltb report₁ report_bytes b.report₁_fits,
      le-ltb report₂ report_bytes b.report₂_fits,
    )

-- Code 0: a lawful file and buffers long enough.
pub pair_code_means : (f : List ℕ) (marks out₁ report₁ out₂ report₂ : ℕ) → pair_code_of f marks out₁ report₁ out₂ report₂ ≡ 0
    → LawfulPair f × PairRoom f marks out₁ report₁ out₂ report₂
unfolding pair_code_of pair_table pair_file_table pair_buffer_table
pair_code_means f marks out₁ report₁ out₂ report₂ e =
    let z = clear_parts (pair_file_table f) (pair_buffer_table f marks out₁ report₁ out₂ report₂)
    (none_applies (pair_table f marks out₁ report₁ out₂ report₂) (omega arith) e) in
    let b = z.1 in
    let r10 = or_none (ltb out₁ (total (pop_sizes_of first_ring f))) (ltb out₂ (total (pop_sizes_of second_ring f))) b.1.0 in
    let r11 = or_none (ltb report₁ report_bytes) (ltb report₂ report_bytes) b.1.1.0 in (
      clear_first (pair_file_table f) z.0,
      record {
        marks_fit = ltb-false marks (length (pair_schedule_of f)) b.0;
        out₁_fits = ltb-false out₁ (total (pop_sizes_of first_ring f)) r10.0;
        report₁_fits = ltb-false report₁ report_bytes r11.0;
        out₂_fits = ltb-false out₂ (total (pop_sizes_of second_ring f)) r10.1;
        report₂_fits = ltb-false report₂ report_bytes r11.1;
      },
    )

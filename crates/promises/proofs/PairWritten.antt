-- A pair's file that was written down says what it was written from.
use mathlib.Core.Path.{◌≡◌, refl, sym, ap, ◌∙◌, subst}
use mathlib.Core.List.{List, ◌++◌}
use Prim.Native.Nat.{ℕ, zero, suc, ◌+◌, ◌*◌, ◌≤◌}
use native.Mathlib.Omega.{arith}
use lib.ListN.{length, take, drop, length-append}
use Rattle.model.specs.File.{total, modulus_of, Entry, pairs, flat, Part}
use Rattle.model.specs.Run.{first_ring}
use Rattle.model.specs.PairFile.{second_ring, header_of, sizes_at, push_sizes_of, pop_sizes_of, pair_sizes_end, bytes_at, push_bytes_of, pair_schedule_at, pair_schedule_of, parts_of}
use Rattle.model.specs.PairCodes.{LawfulPair}
use Rattle.model.proofs.Inverse.{four_read}
use Rattle.model.proofs.Laid.{pairs_flat, length_flat}
use Rattle.model.proofs.Ranges.{Ranged, RingRanges}
use Rattle.model.proofs.PairRanges.{ranges_lawful_pair}
use Rattle.promises.specs.Written.{pair_file_of}
use Rattle.promises.proofs.Written.{Whole, InRange, part_there, part_next}

module _ (p q : Part) (w : Whole p) (v : Whole q) (es : List Entry) where
  abbrev f : List ℕ
  f = pair_file_of p q es

  abbrev bytes : List ℕ
  bytes = p.push_bytes ++ (q.push_bytes ++ flat es)

  from_pushes₁ : drop 16 f ≡ p.push_sizes ++ (p.pop_sizes ++ (q.push_sizes ++ (q.pop_sizes ++ bytes)))
  unfolding pair_file_of
  from_pushes₁ = refl

  from_pops₁ : drop (16 + length p.push_sizes) f ≡ p.pop_sizes ++ (q.push_sizes ++ (q.pop_sizes ++ bytes))
  from_pops₁ = part_next f 16 p.push_sizes _ (length p.push_sizes) refl from_pushes₁

  from_pushes₂ : drop (sizes_at second_ring f) f ≡ q.push_sizes ++ (q.pop_sizes ++ bytes)
  unfolding pair_file_of
  from_pushes₂ = part_next f (16 + length p.push_sizes) p.pop_sizes _ (length p.pop_sizes) refl from_pops₁

  from_pops₂ : drop (sizes_at second_ring f + length q.push_sizes) f ≡ q.pop_sizes ++ bytes
  from_pops₂ = part_next f (sizes_at second_ring f) q.push_sizes _ (length q.push_sizes) refl from_pushes₂

  from_bytes₁ : drop (pair_sizes_end f) f ≡ bytes
  unfolding pair_file_of
  from_bytes₁ = part_next f (sizes_at second_ring f + length q.push_sizes) q.pop_sizes bytes (length q.pop_sizes) refl from_pops₂

  modulus₁ : modulus_of (header_of first_ring f) ≡ p.modulus
  unfolding pair_file_of
  modulus₁ = four_read p.modulus w.modulus_fits

  modulus₂ : modulus_of (header_of second_ring f) ≡ q.modulus
  unfolding pair_file_of
  modulus₂ = four_read q.modulus v.modulus_fits

  pushes₁ : push_sizes_of first_ring f ≡ p.push_sizes
  unfolding pair_file_of push_sizes_of
  pushes₁ = part_there f 16 p.push_sizes _ from_pushes₁

  pops₁ : pop_sizes_of first_ring f ≡ p.pop_sizes
  unfolding pair_file_of pop_sizes_of
  pops₁ = part_there f (16 + length p.push_sizes) p.pop_sizes _ from_pops₁

  pushes₂ : push_sizes_of second_ring f ≡ q.push_sizes
  unfolding pair_file_of push_sizes_of
  pushes₂ = part_there f (sizes_at second_ring f) q.push_sizes _ from_pushes₂

  pops₂ : pop_sizes_of second_ring f ≡ q.pop_sizes
  unfolding pair_file_of pop_sizes_of
  pops₂ = part_there f (sizes_at second_ring f + length q.push_sizes) q.pop_sizes _ from_pops₂

  many₁ : total (push_sizes_of first_ring f) ≡ length p.push_bytes
  many₁ = ap total pushes₁ ∙ sym w.bytes_are

  many₂ : total (push_sizes_of second_ring f) ≡ length q.push_bytes
  many₂ = ap total pushes₂ ∙ sym v.bytes_are

  from_bytes₂ : drop (bytes_at second_ring f) f ≡ q.push_bytes ++ flat es
  from_bytes₂ = part_next f (pair_sizes_end f) p.push_bytes _ (total (push_sizes_of first_ring f)) many₁ from_bytes₁

  bytes₁ : push_bytes_of first_ring f ≡ p.push_bytes
  unfolding push_bytes_of
  bytes₁ = ap (λ n. take n (drop (pair_sizes_end f) f)) many₁ ∙ part_there f (pair_sizes_end f) p.push_bytes _ from_bytes₁

  bytes₂ : push_bytes_of second_ring f ≡ q.push_bytes
  unfolding push_bytes_of
  bytes₂ = ap (λ n. take n (drop (bytes_at second_ring f) f)) many₂ ∙ part_there f (bytes_at second_ring f) q.push_bytes (flat es) from_bytes₂

  from_entries : drop (pair_schedule_at f) f ≡ flat es
  unfolding pair_schedule_at
  from_entries = part_next f (bytes_at second_ring f) q.push_bytes (flat es) (total (push_sizes_of second_ring f)) many₂ from_bytes₂

  -- THE SCHEDULE that was written.
  pub pair_written_schedule : pair_schedule_of f ≡ es
  unfolding pair_schedule_of
  pair_written_schedule = ap pairs from_entries ∙ pairs_flat es

  -- WHAT IT SAYS of its two rings.
  pub written_first : parts_of f first_ring ≡ p
  unfolding pair_file_of
  written_first = λ i. record {
    size = p.size;
    modulus = modulus₁ i;
    bits = p.bits;
    push_sizes = pushes₁ i;
    pop_sizes = pops₁ i;
    push_bytes = bytes₁ i;
  }

  pub written_second : parts_of f second_ring ≡ q
  unfolding pair_file_of
  written_second = λ i. record {
    size = q.size;
    modulus = modulus₂ i;
    bits = q.bits;
    push_sizes = pushes₂ i;
    pop_sizes = pops₂ i;
    push_bytes = bytes₂ i;
  }

  pub pair_written_length : length f ≡ 16 + length p.push_sizes + length p.pop_sizes + length q.push_sizes + length q.pop_sizes
      + length p.push_bytes + length q.push_bytes + 2 * length es
  unfolding pair_file_of
  pair_written_length =
      let a = length-append p.push_sizes (p.pop_sizes ++ (q.push_sizes ++ (q.pop_sizes ++ bytes))) in
      let b = length-append p.pop_sizes (q.push_sizes ++ (q.pop_sizes ++ bytes)) in
      let c = length-append q.push_sizes (q.pop_sizes ++ bytes) in
      let d = length-append q.pop_sizes bytes in
      let e = length-append p.push_bytes (q.push_bytes ++ flat es) in
      let g = length-append q.push_bytes (flat es) in
      let h = length_flat es in
      omega arith

  -- IT IS LAWFUL where the numbers of both rings are in their ranges and it is not too long.
  pub pair_written_lawful : InRange p → InRange q → length f ≤ 65536 → LawfulPair f
  unfolding pair_file_of pair_schedule_at
  pair_written_lawful r s few =
      let l = pair_written_length in
      let b₁ = many₁ in
      let b₂ = many₂ in
      ranges_lawful_pair f (record {
        header = omega arith;
        bounded = few;
        ring = λ k. elim k as (λ j. RingRanges (header_of j f)) [
          | zero ↦ subst (λ (M : ℕ). Ranged p.size M p.bits) (sym modulus₁) r
          | suc n ↦ subst (λ (M : ℕ). Ranged q.size M q.bits) (sym modulus₂) s
        ];
        sizes_in = omega arith;
        bytes_in = omega arith;
        even = omega arith;
      })

-- A lawful pair's file: its parts lie where the layout says, one after the other, with nothing between them.
use mathlib.Core.Path.{◌≡◌, sym, ap, ◌∙◌}
use mathlib.Core.List.{List, ◌++◌}
use Prim.Native.Nat.{ℕ, zero, suc, ◌+◌, ◌*◌, ◌-◌, ◌/◌, ◌≤◌, ◌<◌}
use native.Mathlib.Omega.{arith}
use lib.ListN.{length, get_or, take, drop, length-drop}
use lib.Seq.{drop-drop, length-take-le, get_or-drop}
use Rattle.order.specs.Trace.{Ring}
use Rattle.model.specs.File.{byte_at, total, push_count, pop_count, Entry, flat}
use Rattle.model.specs.Run.{first_ring}
use Rattle.model.specs.PairFile.{second_ring, header_of, sizes_at, push_sizes_of, pop_sizes_of, bytes_at, push_bytes_of, pair_schedule_at, pair_schedule_of}
use Rattle.model.specs.PairCodes.{LawfulPair}
use Rattle.model.proofs.Laid.{flat_pairs, length_pairs, pairs_at, head_of, head_is, part}
use Rattle.model.proofs.PairRanges.{pair_ranges}

-- THE LAYOUT of a lawful file: eight bytes for each ring; the first ring's push sizes and pop sizes, the second's; the first ring's bytes to push,
-- the second's; the entries. Each is as many as is said before it.
pub record PairLaid (f : List ℕ) : Type 0 where
  pub whole : f ≡ head_of f ++ (head_of (drop 8 f) ++ (push_sizes_of first_ring f ++ (pop_sizes_of first_ring f ++ (push_sizes_of second_ring f
      ++ (pop_sizes_of second_ring f ++ (push_bytes_of first_ring f ++ (push_bytes_of second_ring f ++ flat (pair_schedule_of f))))))))
  pub push-sizes : (r : Ring) → length (push_sizes_of r f) ≡ byte_at (header_of r f) 6
  pub pop-sizes : (r : Ring) → length (pop_sizes_of r f) ≡ byte_at (header_of r f) 7
  pub bytes : (r : Ring) → length (push_bytes_of r f) ≡ total (push_sizes_of r f)
  pub entries : length (pair_schedule_of f) ≡ (length f - pair_schedule_at f) / 2
  pub entry : (k : ℕ) (d : Entry) → k < length (pair_schedule_of f)
      → ((get_or (pair_schedule_of f) k d).core ≡ byte_at f (pair_schedule_at f + 2 * k))
      × ((get_or (pair_schedule_of f) k d).age ≡ byte_at f (pair_schedule_at f + (2 * k + 1)))

pub pair_laid : (f : List ℕ) → LawfulPair f → PairLaid f
unfolding push_sizes_of pop_sizes_of push_bytes_of pair_schedule_at pair_schedule_of
pair_laid f h =
    let r = pair_ranges f h in
    let e : length (drop (pair_schedule_at f) f) ≡ length f - pair_schedule_at f = length-drop (pair_schedule_at f) f in
    let l = r.header in
    let in_sizes = r.sizes_in in
    let in_bytes = r.bytes_in in
    record {
      whole = head_is f (omega arith) ∙ ap (λ l. head_of f ++ l) (
          head_is (drop 8 f) (rw (length-drop 8 f) (omega arith)) ∙ ap (λ l. head_of (drop 8 f) ++ l) (
          drop-drop 8 8 f ∙ from_sizes
          )
          );
      push-sizes = λ r. elim r as (λ k. length (push_sizes_of k f) ≡ byte_at (header_of k f) 6) [
        | zero ↦ as_many 16 (push_count f) (omega arith)
        | suc n ↦ as_many (sizes_at second_ring f) (push_count (drop 8 f)) (omega arith)
      ];
      pop-sizes = λ r. elim r as (λ k. length (pop_sizes_of k f) ≡ byte_at (header_of k f) 7) [
        | zero ↦ as_many (16 + push_count f) (pop_count f) (omega arith)
        | suc n ↦ as_many (sizes_at second_ring f + push_count (drop 8 f)) (pop_count (drop 8 f)) (omega arith)
      ];
      bytes = λ r. elim r as (λ k. length (push_bytes_of k f) ≡ total (push_sizes_of k f)) [
        | zero ↦ as_many (bytes_at first_ring f) (total (push_sizes_of first_ring f)) (omega arith)
        | suc n ↦ as_many (bytes_at second_ring f) (total (push_sizes_of second_ring f)) (omega arith)
      ];
      entries = length_pairs (drop (pair_schedule_at f) f) ∙ ap (λ n. n / 2) e;
      entry = λ k d l. let z = pairs_at (drop (pair_schedule_at f) f) k d l in
          (z.0 ∙ get_or-drop (pair_schedule_at f) f (2 * k) 0, z.1 ∙ get_or-drop (pair_schedule_at f) f (2 * k + 1) 0);
    }
  where
    as_many : (at n : ℕ) → at + n ≤ length f → length (take n (drop at f)) ≡ n
    as_many at n l = length-take-le n (drop at f) (rw (length-drop at f) (omega arith))

    from_sizes : drop 16 f ≡ push_sizes_of first_ring f ++ (pop_sizes_of first_ring f ++ (push_sizes_of second_ring f
        ++ (pop_sizes_of second_ring f ++ (push_bytes_of first_ring f ++ (push_bytes_of second_ring f ++ flat (pair_schedule_of f))))))
    from_sizes =
        part f 16 (push_count f) ∙ ap (λ l. push_sizes_of first_ring f ++ l) (
        part f (16 + push_count f) (pop_count f) ∙ ap (λ l. pop_sizes_of first_ring f ++ l) (
        part f (sizes_at second_ring f) (push_count (drop 8 f)) ∙ ap (λ l. push_sizes_of second_ring f ++ l) (
        part f (sizes_at second_ring f + push_count (drop 8 f)) (pop_count (drop 8 f)) ∙ ap (λ l. pop_sizes_of second_ring f ++ l) (
        part f (bytes_at first_ring f) (total (push_sizes_of first_ring f)) ∙ ap (λ l. push_bytes_of first_ring f ++ l) (
        part f (bytes_at second_ring f) (total (push_sizes_of second_ring f)) ∙ ap (λ l. push_bytes_of second_ring f ++ l) (
        sym (flat_pairs (drop (pair_schedule_at f) f) (rw (length-drop (pair_schedule_at f) f) (pair_ranges f h).even))
        )
        )
        )
        )
        )
        )

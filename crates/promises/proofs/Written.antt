-- A file that was written down says what it was written from.
use mathlib.Core.Path.{◌≡◌, refl, sym, ap, ◌∙◌}
use mathlib.Core.List.{List, ◌++◌}
use Prim.Native.Nat.{ℕ, ◌+◌, ◌*◌, ◌%◌, ◌≤◌, ◌<◌}
use native.Mathlib.Omega.{arith}
use lib.ListN.{length, take, drop, length-append}
use lib.Seq.{take_at, drop_at, drop-drop}
use Rattle.model.specs.Limits.{header_bytes}
use Rattle.model.specs.File.{total, modulus_of, push_sizes, pop_sizes, sizes_end, push_bytes, schedule_at, Entry, pairs, flat, schedule_of, Part, part_of}
use Rattle.model.specs.Codes.{Lawful}
use Rattle.model.proofs.Inverse.{four_read}
use Rattle.model.proofs.Ranges.{Ranged}
use Rattle.model.proofs.Laid.{ranges_lawful, pairs_flat, length_flat}
use Rattle.promises.specs.Written.{file_of}

-- What a ring says can be written: the modulus in four bytes, and as many bytes to push as the push sizes add up to.
pub record Whole (p : Part) : Type 0 where
  pub modulus_fits : p.modulus < 4294967296
  pub bytes_are : length p.push_bytes ≡ total p.push_sizes

-- Its numbers are in their ranges.
abbrev pub InRange : Part → Type 0
InRange p = Ranged p.size p.modulus p.bits

-- A part of a list, and what follows it.
pub part_there : (f : List ℕ) (at : ℕ) (l rest : List ℕ) → drop at f ≡ l ++ rest → take (length l) (drop at f) ≡ l
part_there f at l rest e = ap (take (length l)) e ∙ take_at l rest (length l) refl

pub part_next : (f : List ℕ) (at : ℕ) (l rest : List ℕ) (n : ℕ) → n ≡ length l → drop at f ≡ l ++ rest → drop (at + n) f ≡ rest
part_next f at l rest n h e = sym (drop-drop n at f) ∙ ap (drop n) e ∙ drop_at l rest n (sym h)

module _ (p : Part) (w : Whole p) (es : List Entry) where
  abbrev f : List ℕ
  f = file_of p es

  from_pushes : drop header_bytes f ≡ p.push_sizes ++ (p.pop_sizes ++ (p.push_bytes ++ flat es))
  unfolding file_of
  from_pushes = refl

  from_pops : drop (header_bytes + length p.push_sizes) f ≡ p.pop_sizes ++ (p.push_bytes ++ flat es)
  from_pops = part_next f header_bytes p.push_sizes _ (length p.push_sizes) refl from_pushes

  from_bytes : drop (sizes_end f) f ≡ p.push_bytes ++ flat es
  unfolding file_of
  from_bytes = part_next f (header_bytes + length p.push_sizes) p.pop_sizes _ (length p.pop_sizes) refl from_pops

  modulus_is : modulus_of f ≡ p.modulus
  unfolding file_of
  modulus_is = four_read p.modulus w.modulus_fits

  pushes_are : push_sizes f ≡ p.push_sizes
  unfolding file_of push_sizes
  pushes_are = part_there f header_bytes p.push_sizes _ from_pushes

  pops_are : pop_sizes f ≡ p.pop_sizes
  unfolding file_of pop_sizes
  pops_are = part_there f (header_bytes + length p.push_sizes) p.pop_sizes _ from_pops

  bytes_are : push_bytes f ≡ p.push_bytes
  unfolding push_bytes
  bytes_are =
      ap (λ n. take n (drop (sizes_end f) f)) (ap total pushes_are ∙ sym w.bytes_are) ∙ part_there f (sizes_end f) p.push_bytes (flat es) from_bytes

  from_entries : drop (schedule_at f) f ≡ flat es
  unfolding schedule_at
  from_entries = part_next f (sizes_end f) p.push_bytes (flat es) (total (push_sizes f)) (ap total pushes_are ∙ sym w.bytes_are) from_bytes

  -- THE SCHEDULE that was written.
  pub written_schedule : schedule_of f ≡ es
  unfolding schedule_of
  written_schedule = ap pairs from_entries ∙ pairs_flat es

  -- WHAT IT SAYS of its ring.
  pub written_part : part_of f ≡ p
  unfolding file_of
  written_part = λ i. record {
    size = p.size;
    modulus = modulus_is i;
    bits = p.bits;
    push_sizes = pushes_are i;
    pop_sizes = pops_are i;
    push_bytes = bytes_are i;
  }

  pub written_length : length f ≡ 8 + length p.push_sizes + length p.pop_sizes + length p.push_bytes + 2 * length es
  unfolding file_of
  written_length =
      let a = length-append p.push_sizes (p.pop_sizes ++ (p.push_bytes ++ flat es)) in
      let b = length-append p.pop_sizes (p.push_bytes ++ flat es) in
      let c = length-append p.push_bytes (flat es) in
      let d = length_flat es in
      omega arith

  -- IT IS LAWFUL where its numbers are in their ranges and it is not too long.
  pub written_lawful : InRange p → length f ≤ 65536 → Lawful f
  unfolding file_of schedule_at
  written_lawful r few =
      let l = written_length in
      let m = modulus_is in
      let b : total (push_sizes f) ≡ length p.push_bytes = ap total pushes_are ∙ sym w.bytes_are in
      ranges_lawful f (record {
        header = omega arith;
        bounded = few;
        some_slot = r.some_slot;
        slots = r.slots;
        modulus_low = omega (arith, r.modulus_low);
        modulus_high = omega (arith, r.modulus_high);
        divided = ap (λ n. n % p.size) m ∙ r.divided;
        above = omega (arith, r.above);
        orders = r.orders;
        sizes_in = omega arith;
        bytes_in = omega arith;
        even = omega arith;
      })

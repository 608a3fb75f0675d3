-- The ranges that rows 3 to 6 leave a ring, over the file from its eight bytes on.
use mathlib.Core.Path.{◌≡◌, refl}
use mathlib.Core.Bool.{not}
use mathlib.Core.List.{List}
use Prim.Native.Nat.{ℕ, zero, suc, ◌+◌, ◌*◌, ◌/◌, ◌%◌, ◌≤◌, ◌<◌}
use native.Mathlib.Omega.{arith}
use native.Mathlib.Nat.{div-add-mod}
use lib.Dec.{eqb, ltb}
use borrow.Author.Tests.{ltb-false, eqb-true, eqb-false, not-false, le-ltb, eq-eqb, ne_eqb}
use Rattle.order.proofs.Trace.{or_none}
use Rattle.model.specs.Limits.{most_slots, least_modulus, most_modulus, most_order_bits}
use Rattle.model.specs.File.{ring_size, modulus_of, order_bits}
use Rattle.model.specs.Codes.{divides, ring_table}
use Rattle.model.proofs.Table.{Clear}

-- A proper multiple is larger.
pub multiple_above : (m M : ℕ) → 1 ≤ m → 2 ≤ M → M % m ≡ 0 → ¬ (M ≡ m) → m < M
multiple_above m M a b d n = go (M / m) refl
  where
    go : (k : ℕ) → M / m ≡ k → m < M
    go zero e = let z : m * zero + M % m ≡ M = rw (← e) (div-add-mod M m) in absurd (omega arith)
    go (suc zero) e = let z : m * suc zero + M % m ≡ M = rw (← e) (div-add-mod M m) in absurd (n (omega arith))
    go (suc (suc k)) e = let z : m * suc (suc k) + M % m ≡ M = rw (← e) (div-add-mod M m) in omega arith

-- THE RANGES of a ring's size, modulus and order bits.
pub record Ranged (m M bits : ℕ) : Type 0 where
  pub some_slot : 1 ≤ m
  pub slots : m ≤ 128
  pub modulus_low : 2 ≤ M
  pub modulus_high : M ≤ 65536
  pub divided : M % m ≡ 0
  pub above : m < M
  pub orders : bits ≤ 15

-- They are those of a ring whose eight bytes are the first of f.
abbrev pub RingRanges : List ℕ → Type 0
RingRanges f = Ranged (ring_size f) (modulus_of f) (order_bits f)

pub ring_ranges : (f : List ℕ) → Clear (ring_table f) → RingRanges f
ring_ranges f z =
    let r3 = or_none (eqb (ring_size f) 0) (ltb most_slots (ring_size f)) z.0 in
    let r4 = or_none (ltb (modulus_of f) least_modulus) (ltb most_modulus (modulus_of f)) z.1.0 in
    let r5 = or_none (not (divides (ring_size f) (modulus_of f))) (eqb (modulus_of f) (ring_size f)) z.1.1.0 in
    let m1 : 1 ≤ ring_size f = omega (arith, eqb-false (ring_size f) 0 r3.0) in
    let M2 : 2 ≤ modulus_of f = ltb-false (modulus_of f) least_modulus r4.0 in
    let d : modulus_of f % ring_size f ≡ 0 = eqb-true (modulus_of f % ring_size f) 0 (not-false (divides (ring_size f) (modulus_of f)) r5.0) in
    record {
      some_slot = m1;
      slots = ltb-false most_slots (ring_size f) r3.1;
      modulus_low = M2;
      modulus_high = ltb-false most_modulus (modulus_of f) r4.1;
      divided = d;
      above = multiple_above (ring_size f) (modulus_of f) m1 M2 d (eqb-false (modulus_of f) (ring_size f) r5.1);
      orders = ltb-false most_order_bits (order_bits f) z.1.1.1.0;
    }

-- In these ranges none of the rows applies.
pub ring_clear : (f : List ℕ) → RingRanges f → Clear (ring_table f)
ring_clear f r =
    let s = r.some_slot in
    let a = r.above in (
      rw (ne_eqb (ring_size f) 0 (λ e. omega arith)) (le-ltb most_slots (ring_size f) r.slots),
      (
        rw (le-ltb (modulus_of f) least_modulus r.modulus_low) (le-ltb most_modulus (modulus_of f) r.modulus_high),
        (
          rw (eq-eqb (modulus_of f % ring_size f) 0 r.divided) (ne_eqb (modulus_of f) (ring_size f) (λ e. omega arith)),
          (le-ltb most_order_bits (order_bits f) r.orders, tt),
        ),
      ),
    )

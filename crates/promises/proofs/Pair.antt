-- The promises of every setting and of strong orders, for two rings.
use mathlib.Core.Path.{◌≡◌}
use mathlib.Core.List.{List}
use Prim.Native.Nat.{ℕ, zero, suc, ◌/◌}
use native.Mathlib.Omega.{arith}
use native.Mathlib.Nat.{div-add-mod}
use Rattle.order.specs.Trace.{Ring}
use Rattle.model.specs.File.{ring_size, modulus_of, order_bits}
use Rattle.model.specs.Run.{first_ring}
use Rattle.model.specs.PairFile.{second_ring, header_of, parts_of, names_pair}
use Rattle.model.specs.PairCodes.{LawfulPair}
use Rattle.model.proofs.PairRanges.{pair_ranges}
use Rattle.model.proofs.PairLaid.{pair_laid}
use Rattle.promises.specs.Strong.{all_strong}
use Rattle.promises.specs.Pair.{AlwaysPairFlows, StrongPairKeeps}
use Rattle.promises.proofs.Strong.{Fair, flows, calm}

pub pair_fair : (f : List ℕ) → LawfulPair f → (r : Ring) → Fair (parts_of f r)
pair_fair f lawful r =
    let h = (pair_ranges f lawful).ring r in
    let m = ring_size (header_of r f) in
    let M = modulus_of (header_of r f) in
    record {
      some_slot = h.some_slot;
      laps = M / m;
      divides = let d = h.divided in let k = div-add-mod M m in omega arith;
      larger = h.above;
      enough = let e = (pair_laid f lawful).bytes r in omega arith;
    }

-- Both rings strong.
pub pair_strong : (f : List ℕ) → order_bits (header_of first_ring f) ≡ all_strong → order_bits (header_of second_ring f) ≡ all_strong
    → (r : Ring) → (parts_of f r).bits ≡ all_strong
pair_strong f strong₁ strong₂ zero = strong₁
pair_strong f strong₁ strong₂ (suc r) = strong₂

-- THE PROMISE OF EVERY SETTING
pub always_pair_flows : AlwaysPairFlows
always_pair_flows f lawful es xs s run =
    let k = flows (parts_of f) names_pair (pair_fair f lawful) run in
    record { first = k first_ring; second = k second_ring }

-- THE PROMISE OF EIGHT STRONG ORDERS
pub strong_pair_keeps : StrongPairKeeps
strong_pair_keeps f lawful strong₁ strong₂ es xs s run = record {
  calm = calm (parts_of f) names_pair (pair_fair f lawful) run (pair_strong f strong₁ strong₂);
  flows = always_pair_flows f lawful es xs s run;
}

-- A sum of sizes is a sum of numbers, and of few bytes it is small.
use mathlib.Core.Path.{◌≡◌, refl}
use mathlib.Core.List.{List, [], ◌∷◌}
use Prim.Native.Nat.{ℕ, ◌*◌, ◌<◌, ◌≤◌}
use native.Mathlib.Omega.{arith}
use lib.ListN.{length, get_or}
use lib.Seq.{take_all}
use Rattle.std.specs.List.{sum}
use Rattle.std.proofs.lemmas.List.Sums.{sum_by-cons}
use Rattle.model.specs.File.{total}
use Rattle.model.proofs.Total.{total_small}

pub total_is : (l : List ℕ) → sum l ≡ total l
unfolding total
total_is [] = refl
total_is (x ∷ l) = rw (sum_by-cons (λ (n : ℕ). n) x l, total_is l)

pub total_low : (l : List ℕ) → ((k : ℕ) → get_or l k 0 < 256) → length l < 256 → total l ≤ 255 * 255
total_low l h few = let short : length l ≤ 255 = omega arith in rw (take_all 255 l short) at (total_small l 255 h)

-- A run file has one ring: every entry counts for it, and its report asks nothing of an entry's ring.
use mathlib.Core.Path.{◌≡◌, refl, ap, ◌∙◌}
use mathlib.Core.Bool.{Bool, true, false, cond}
use mathlib.Core.List.{List, [], ◌∷◌}
use Prim.Native.Nat.{ℕ, suc}
use lib.Dec.{eqb}
use borrow.Author.Tests.{eq-eqb}
use Rattle.order.specs.Trace.{core0, core1, Ring}
use Rattle.model.specs.File.{total, modulus_of, push_sizes, pop_sizes, Entry, part_of}
use Rattle.model.specs.Marks.{batch_failed, data_loaded, race_found}
use Rattle.model.specs.Queue.{nobody, named}
use Rattle.model.specs.Run.{Result, State, first_ring, Runs, stop, move, names_one, shape_of, fresh}
use Rattle.model.specs.Report.{count, marked, entry_performed, entry_refused, marked_of, completed_of, of_ring, entry_with, raced_at, partner_of, occupancy, largest_shortfall, report_of, numbers_of}
use Rattle.model.proofs.Rings.{ring_of, step-at}

-- The core bytes of a run file name its one ring, or nobody.
pub one_ring : (n : ℕ) → ring_of (names_one n) ≡ 0
one_ring n = go (eqb n 0) (eqb n 1)
  where
    go : (a b : Bool) → ring_of (cond a (named 0 core0) (cond b (named 0 core1) nobody)) ≡ 0
    go true true = refl
    go true false = refl
    go false true = refl
    go false false = refl

-- Every result counts for ring r.
abbrev pub AllAt : Ring → List Result → Type 0
AllAt r [] = Unit {0}
AllAt r (x ∷ xs) = (x.ring ≡ r) × AllAt r xs

-- EVERY ENTRY counts for the one ring.
pub all_of_one : (f : List ℕ) {s z : State} {es : List Entry} {xs : List Result} → Runs (shape_of f) s es xs z → AllAt first_ring xs
all_of_one f stop = tt
all_of_one f (move {s = s} {e = e} {x = x} a p) = ((step-at (shape_of f) s e x a).0 ∙ one_ring e.core, all_of_one f p)

pub of_all : (r : Ring) (xs : List Result) → AllAt r xs → of_ring r xs ≡ xs
of_all r [] h = refl
of_all r (x ∷ xs) h = rw (eq-eqb x.ring r h.0) (ap (λ l. x ∷ l) (of_all r xs h.1))

pub of_one_ring : (f : List ℕ) {s z : State} {es : List Entry} {xs : List Result} → Runs (shape_of f) s es xs z → of_ring first_ring xs ≡ xs
of_one_ring f {xs = xs} run = of_all first_ring xs (all_of_one f run)

-- The racing entry, whichever ring it counts for, the entries being counted from n.
abbrev pub race_from : ℕ → List Result → ℕ
race_from n xs = entry_with (marked race_found) n xs

pub race_of_all : (r n : ℕ) (xs : List Result) → AllAt r xs → entry_with (raced_at r) n xs ≡ race_from n xs
race_of_all r n [] h = refl
race_of_all r n (x ∷ xs) h = rw (eq-eqb x.ring r h.0) (ap (λ k. cond (marked race_found x) n k) (race_of_all r (suc n) xs h.1))

-- The numbers of a run of one ring, in which nothing is asked of an entry's ring.
pub numbers_of_one : (f : List ℕ) {z : State} {es : List Entry} {xs : List Result} → Runs (shape_of f) (fresh f) es xs z
    → numbers_of f xs z ≡
    count entry_performed xs
    ∷ count entry_refused xs
    ∷ total (completed_of core0 xs (push_sizes f))
    ∷ total (completed_of core1 xs (pop_sizes f))
    ∷ count (marked data_loaded) xs
    ∷ occupancy first_ring (modulus_of f) z.trace
    ∷ count (marked_of core0 batch_failed) xs
    ∷ count (marked_of core1 batch_failed) xs
    ∷ race_from 1 xs
    ∷ partner_of xs
    ∷ largest_shortfall (shape_of f) first_ring (part_of f) core0 xs
    ∷ largest_shortfall (shape_of f) first_ring (part_of f) core1 xs
    ∷ []
unfolding report_of
numbers_of_one f {xs = xs} run = cc (of_one_ring f run, race_of_all first_ring 1 xs (all_of_one f run))

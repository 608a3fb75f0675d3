-- What one ring alone has and a pair has not. A core learns of the other by either ring. So axiom 2 may hide a store that the core has not passed, and
-- two accesses may be ordered at a ring whose own indexes order nothing.
use Rattle.std.specs.Prelude.{◌≡◌, ◌⊎◌, true, false, List, ℕ, take}
use Rattle.std.proofs.Math.Option.{some}
use Rattle.order.specs.Trace.{Core, core0, core1, other, Ring, index, slot, load, store, act, who, stores_to}
use Rattle.order.specs.Order.{HappensBefore}
use Rattle.order.specs.Hidden.{Hidden}
use Rattle.order.specs.Coherence.{Passed}
use Rattle.model.specs.File.{Entry, order_bits}
use Rattle.model.specs.Run.{Result, State, first_ring, Runs, shape_of, fresh}
use Rattle.model.specs.PairFile.{header_of, pair_schedule_of, pair_shape, pair_fresh}
use Rattle.model.specs.PairCodes.{LawfulPair}
use Rattle.model.specs.PairWorked.{hides, orders}
use Rattle.promises.specs.Same.{back_syncs}

-- ONE RING: after every run of every run file a core has passed whatever axiom 2 hides from it.
abbrev pub OneHidesPassed : Type 0
OneHidesPassed = (f : List ℕ) (es : List Entry) (xs : List Result) (s : State) → Runs (shape_of f) (fresh f) es xs s
    → (c : Core) (n : ℕ) → (n ≡ 0) ⊎ (stores_to (index first_ring (other c)) (act s.trace n) ≡ true)
    → Hidden (shape_of f).orders s.trace c (index first_ring (other c)) n → Passed s.trace c (index first_ring (other c)) n

-- A lawful pair's file and entries after which store n of ring r's index is hidden from core c, which has not passed it.
pub record HiddenNotPassed (f : List ℕ) (es : List Entry) (r : Ring) (c : Core) (n : ℕ) : Type 0 where
  pub lawful : LawfulPair f
  pub results : List Result
  pub end : State
  pub run : Runs (pair_shape f) (pair_fresh f) es results end
  pub hidden : Hidden (pair_shape f).orders end.trace c (index r (other c)) n
  pub not_passed : ¬ Passed end.trace c (index r (other c)) n

-- A PAIR: the first eight entries of the run `hides`, and the initial store of the first ring's back, hidden from core 1.
abbrev pub PairHidesUnpassed : Type 0
PairHidesUnpassed = HiddenNotPassed hides.file (take 8 (pair_schedule_of hides.file)) first_ring core1 0

-- ONE RING: where back does not synchronise, nothing that the producer did happens before anything that the consumer did.
abbrev pub OneOrdersNothing : Type 0
OneOrdersNothing = (f : List ℕ) → back_syncs (order_bits f) ≡ false
    → (es : List Entry) (xs : List Result) (s : State) → Runs (shape_of f) (fresh f) es xs s
    → (i j : ℕ) → who (act s.trace i) ≡ some core0 → who (act s.trace j) ≡ some core1 → ¬ HappensBefore (shape_of f).orders s.trace i j

-- A lawful pair's file whose first ring's back does not synchronise, and a run of it in which the store of a slot of that ring, entry i, happens
-- before the load of it, entry j.
pub record OrderedAcross (f : List ℕ) (i j : ℕ) : Type 0 where
  pub lawful : LawfulPair f
  pub back_is_weak : back_syncs (order_bits (header_of first_ring f)) ≡ false
  pub results : List Result
  pub end : State
  pub run : Runs (pair_shape f) (pair_fresh f) (pair_schedule_of f) results end
  pub place : ℕ
  pub byte : ℕ
  pub stored : act end.trace i ≡ store core0 (slot first_ring place) byte
  pub loaded : act end.trace j ≡ load core1 (slot first_ring place) i
  pub before : HappensBefore (pair_shape f).orders end.trace i j

-- A PAIR: the run `orders`, in which entry 2 stores the byte and entry 10 loads it.
abbrev pub PairOrdersAcross : Type 0
PairOrdersAcross = OrderedAcross orders.file 2 10

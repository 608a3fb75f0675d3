-- What holds of a pair of rings after each entry of a run: whatever the orders, and where all eight are strong.
use Rattle.std.specs.Prelude.{◌≡◌, List, ℕ}
use Rattle.order.specs.Trace.{Ring}
use Rattle.model.specs.File.{Entry, order_bits}
use Rattle.model.specs.Run.{Result, State, first_ring, Runs}
use Rattle.model.specs.Report.{of_ring}
use Rattle.model.specs.PairFile.{second_ring, header_of, parts_of, pair_shape, pair_fresh}
use Rattle.model.specs.PairCodes.{LawfulPair}
use Rattle.promises.specs.Flows.{Flows}
use Rattle.promises.specs.Strong.{all_strong, Calm}

-- Ring r of file f, with those of the results xs that count for it.
abbrev pub RingFlows : List ℕ → Ring → List Result → State → Type 0
RingFlows f r xs s = Flows r (parts_of f r) (of_ring r xs) s

-- Each ring keeps its bytes.
pub record PairFlows (f : List ℕ) (xs : List Result) (s : State) : Type 0 where
  pub first : RingFlows f first_ring xs s
  pub second : RingFlows f second_ring xs s

-- THE PROMISE OF EVERY SETTING: for every lawful pair's file, whatever its eight orders, up to a race in either ring, at it and after it.
abbrev pub AlwaysPairFlows : Type 0
AlwaysPairFlows = (f : List ℕ) → LawfulPair f → (es : List Entry) (xs : List Result) (s : State) → Runs (pair_shape f) (pair_fresh f) es xs s
    → PairFlows f xs s

-- And nothing races, in either ring.
pub record PairKept (f : List ℕ) (xs : List Result) (s : State) : Type 0 where
  pub calm : Calm (pair_shape f).orders xs s
  pub flows : PairFlows f xs s

-- THE PROMISE OF STRONG ORDERS: for every lawful pair's file whose eight orders are all strong, and every run over entries es that the definition allows.
abbrev pub StrongPairKeeps : Type 0
StrongPairKeeps = (f : List ℕ) → LawfulPair f → order_bits (header_of first_ring f) ≡ all_strong → order_bits (header_of second_ring f) ≡ all_strong
    → (es : List Entry) (xs : List Result) (s : State) → Runs (pair_shape f) (pair_fresh f) es xs s → PairKept f xs s

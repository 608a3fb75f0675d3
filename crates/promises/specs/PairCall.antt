-- The same promises as facts about a call, whatever the orders and where they are strong: from the outcome that the contract of `ferrulique_run_two` states, and from nothing else.
use Rattle.std.specs.Prelude.{◌≡◌, List, ℕ, length, take}
use Rattle.model.specs.File.{order_bits}
use Rattle.model.specs.Run.{Result, State, first_ring, Runs}
use Rattle.model.specs.Report.{of_ring}
use Rattle.model.specs.Outcome.{marks_of}
use Rattle.model.specs.PairFile.{second_ring, header_of, pair_schedule_of, parts_of, pair_shape, pair_fresh}
use Rattle.model.specs.PairOutcome.{Lent, PairOutcome}
use Rattle.promises.specs.Strong.{all_strong}
use Rattle.promises.specs.Call.{Told, NoRaceTold}

-- After a call that ran file f, whose results have their marks in the marks buffer.
pub record PairCallFlows (f : List ℕ) (b : Lent) : Type 0 where
  pub results : List Result
  pub end : State
  pub run : Runs (pair_shape f) (pair_fresh f) (pair_schedule_of f) results end
  pub marks_are : take (length results) b.marks ≡ marks_of results
  pub first : Told first_ring (parts_of f first_ring) (of_ring first_ring results) b.out₁ b.report₁
  pub second : Told second_ring (parts_of f second_ring) (of_ring second_ring results) b.out₂ b.report₂

-- THE PROMISE OF EVERY CALL: for every file, whatever its eight orders, and all buffers, wherever the answer is 0, raced or not.
abbrev pub AlwaysPairCallFlows : Type 0
AlwaysPairCallFlows = (f : List ℕ) (b : Lent) (r : ℕ) (b' : Lent) → PairOutcome f b r b' → r ≡ 0 → PairCallFlows f b'

-- The same, and neither report tells of a race.
pub record PairCallKept (f : List ℕ) (b : Lent) : Type 0 where
  pub flows : PairCallFlows f b
  pub no_race₁ : NoRaceTold b.report₁
  pub no_race₂ : NoRaceTold b.report₂

-- THE PROMISE OF A CALL WITH STRONG ORDERS: for every file and all buffers, wherever the answer is 0 and the eight orders are strong.
abbrev pub StrongPairCallKeeps : Type 0
StrongPairCallKeeps = (f : List ℕ) (b : Lent) (r : ℕ) (b' : Lent) → PairOutcome f b r b' → r ≡ 0
    → order_bits (header_of first_ring f) ≡ all_strong → order_bits (header_of second_ring f) ≡ all_strong → PairCallKept f b'

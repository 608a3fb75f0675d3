-- What all four orders strong guarantee, after each entry of a run.
use Rattle.std.specs.Prelude.{◌≡◌, false, List, [], ◌∷◌, ℕ}
use Rattle.order.specs.Order.{Orders}
use Rattle.order.specs.Race.{DataRace}
use Rattle.model.specs.File.{Entry, order_bits, part_of}
use Rattle.model.specs.Codes.{Lawful}
use Rattle.model.specs.Marks.{race_found}
use Rattle.model.specs.Run.{Result, State, Runs, first_ring, shape_of, fresh}
use Rattle.promises.specs.Flows.{Flows}

-- The order bits with all four set.
abbrev pub all_strong : ℕ
all_strong = 15

-- Mark 7 is never given.
abbrev pub NeverRaced : List Result → Type 0
NeverRaced [] = Unit {0}
NeverRaced (x ∷ xs) = (¬ (x.mark ≡ race_found)) × NeverRaced xs

-- A run so far, with results xs, in state s.
-- No two accesses of one slot by the two cores, one of them a store, are unordered; no entry got the mark of a race; the machine runs.
pub record Calm (o : Orders) (xs : List Result) (s : State) : Type 0 where
  pub no_race : (i j : ℕ) → ¬ DataRace o s.trace i j
  pub no_race_mark : NeverRaced xs
  pub running : s.halted ≡ false

-- What holds under every setting, and that nothing races, of a run of file f: every result counts for its one ring.
pub record Kept (f : List ℕ) (xs : List Result) (s : State) : Type 0 where
  pub calm : Calm (shape_of f).orders xs s
  pub flows : Flows first_ring (part_of f) xs s

-- THE PROMISE: for every lawful file whose orders are all strong, and every run over entries es that the definition allows. As es is any
-- list of entries, it is any schedule with any ages, and every prefix of a schedule, the empty one too.
abbrev pub StrongKeeps : Type 0
StrongKeeps = (f : List ℕ) → Lawful f → order_bits f ≡ all_strong
    → (es : List Entry) (xs : List Result) (s : State) → Runs (shape_of f) (fresh f) es xs s → Kept f xs s

-- What a shortfall tells: how much was missing where a batch failed. It is stated of any rings: of the one ring of a run file, and of each of a pair.
use Rattle.std.specs.Prelude.{◌≡◌, ◌↔◌, true, cond, List, ◌∷◌, ℕ, ◌+◌, ◌≤◌, take}
use Rattle.order.specs.Trace.{Core, other, Ring, index, load}
use Rattle.model.specs.File.{total, Entry, order_bits, Part, part_of}
use Rattle.model.specs.Codes.{Lawful}
use Rattle.model.specs.Marks.{batch_failed}
use Rattle.model.specs.Queue.{Named, Shape, Queue, pushes, lead}
use Rattle.model.specs.Run.{Result, State, Step, Runs, first_ring, machine_of, fresh_of, names_one, shape_of, fresh}
use Rattle.model.specs.Report.{count, marked_of, completed_of, of_ring, missed, largest_shortfall}
use Rattle.model.specs.PairFile.{second_ring, header_of, parts_of, names_pair, pair_shape, pair_fresh}
use Rattle.model.specs.PairCodes.{LawfulPair}
use Rattle.promises.specs.Strong.{all_strong}

-- With result x, from ring r's queue q, core c's batch of size n fails by d: the store that it read is that of entry k.
pub record FailsBy (g : Shape) (r : Ring) (q : Queue) (x : Result) (c : Core) (n d k : ℕ) : Type 0 where
  pub failed : marked_of c batch_failed x ≡ true
  pub later : List ℕ
  pub batch_is : (q.side c).batches ≡ n ∷ later
  pub by : d ≡ missed g r c (n ∷ later) (x.queue.side c)
  pub read : x.did ≡ load c (index r (other c)) k

-- A FAILED BATCH'S SHORTFALL is at least 1 and at most its size, whatever the rings, the state and the entry.
abbrev pub ShortfallFits : Type 0
ShortfallFits = (g : Shape) (s : State) (e : Entry) (x : Result) → Step g s e x
    → (r : Ring) (c : Core) (n d k : ℕ) → FailsBy g r (s.queue r) x c n d k → (1 ≤ d) × (d ≤ n)

-- EACH OF THE TWO NUMBERS OF A RING'S REPORT is 0 exactly where no such batch failed there. A file says p of the rings, and its core bytes name
-- whom they may.
abbrev pub NoneFailed : Type 0
NoneFailed = (p : Ring → Part) (names : ℕ → Named) (es : List Entry) (xs : List Result) (s : State) → Runs (machine_of p names) (fresh_of p) es xs s
    → (r : Ring) (c : Core) → (largest_shortfall (machine_of p names) r (p r) c (of_ring r xs) ≡ 0) ↔ (count (marked_of c batch_failed) (of_ring r xs) ≡ 0)

-- The bytes of core c's completed batches at ring r, of which the file says p: pushed for the producer, popped for the consumer.
abbrev pub done_by : Ring → Part → Core → List Result → ℕ
done_by r p c xs = total (completed_of c (of_ring r xs) (cond (pushes r c) p.push_sizes p.pop_sizes))

-- After results xs, in state s, a failed batch at ring r is short of what was missing at the store that was read. For a push: the bytes pushed, less
-- those popped up to entry k, and the batch itself are d more than the ring's m. For a pop: the bytes pushed up to entry k, less those popped, are
-- d fewer than the batch.
abbrev pub TellsMissing : (Ring → Part) → (ℕ → Named) → Ring → List Result → State → Type 0
TellsMissing p names r xs s = (e : Entry) (x : Result) → Step (machine_of p names) s e x
    → (c : Core) (n d k : ℕ) → FailsBy (machine_of p names) r (s.queue r) x c n d k
    → done_by r (p r) c xs + n ≡ done_by r (p r) (other c) (take k xs) + lead (machine_of p names) r c + d

-- WITH STRONG ORDERS: in every run of every lawful file of one ring.
abbrev pub StrongShortfall : Type 0
StrongShortfall = (f : List ℕ) → Lawful f → order_bits f ≡ all_strong
    → (es : List Entry) (xs : List Result) (s : State) → Runs (shape_of f) (fresh f) es xs s → TellsMissing (λ r. part_of f) names_one first_ring xs s

-- .. and at each ring in every run of every lawful pair's file.
abbrev pub StrongPairShortfall : Type 0
StrongPairShortfall = (f : List ℕ) → LawfulPair f → order_bits (header_of first_ring f) ≡ all_strong → order_bits (header_of second_ring f) ≡ all_strong
    → (es : List Entry) (xs : List Result) (s : State) → Runs (pair_shape f) (pair_fresh f) es xs s
    → TellsMissing (parts_of f) names_pair first_ring xs s × TellsMissing (parts_of f) names_pair second_ring xs s

-- What holds under every setting of the orders, after each entry of a run: up to a race, at it and after it. A race ends the run, and what was
-- completed before it stays as it was.
use Rattle.std.specs.Prelude.{◌≡◌, List, ◌++◌, ℕ, ◌+◌, ◌≤◌, take}
use Rattle.order.specs.Trace.{other, Ring}
use Rattle.model.specs.File.{Entry, total, Part, part_of}
use Rattle.model.specs.Codes.{Lawful}
use Rattle.model.specs.Queue.{pusher}
use Rattle.model.specs.Run.{Result, State, Runs, first_ring, shape_of, fresh}
use Rattle.model.specs.Report.{completed_of, occupancy}
use Rattle.promises.specs.Batches.{batches_of, joined}

-- Bytes pushed and bytes popped at ring r, of which the file says p, over completed batches: two numbers of the report. The results are
-- those that count for the ring.
abbrev pub pushed : Ring → Part → List Result → ℕ
pushed r p xs = total (completed_of (pusher r) xs p.push_sizes)

abbrev pub popped : Ring → Part → List Result → ℕ
popped r p xs = total (completed_of (other (pusher r)) xs p.pop_sizes)

-- The bytes themselves.
abbrev pub pushed_bytes : Ring → State → List ℕ
pushed_bytes r s = ((s.queue r).side (pusher r)).completed

abbrev pub popped_bytes : Ring → State → List ℕ
popped_bytes r s = ((s.queue r).side (other (pusher r))).completed

-- Ring r, of which the file says p, with the results xs that count for it.
-- The occupancy is the bytes pushed less the bytes popped, and at most m.
-- The bytes popped are the first of the bytes pushed, in order; and those are the file's own, batch by batch, without the failed batches.
-- Out holds the bytes popped, then those of the pop that is under way.
pub record Flows (r : Ring) (p : Part) (xs : List Result) (s : State) : Type 0 where
  pub occupancy_is : occupancy r p.modulus s.trace + popped r p xs ≡ pushed r p xs
  pub within_ring : occupancy r p.modulus s.trace ≤ p.size
  pub first_in_first_out : popped_bytes r s ≡ take (popped r p xs) (pushed_bytes r s)
  pub out_begins : (s.queue r).out ≡ popped_bytes r s ++ ((s.queue r).side (other (pusher r))).moved
  pub from_the_file : pushed_bytes r s ≡ joined (completed_of (pusher r) xs (batches_of p.push_sizes p.push_bytes))

-- THE PROMISE OF EVERY SETTING: for every lawful file, whatever its orders, and every run over entries es that the definition allows. As es is any
-- list of entries, it is any schedule with any ages and every prefix of it: the empty one, one that ends with the racing entry, one that goes on
-- after it.
abbrev pub AlwaysFlows : Type 0
AlwaysFlows = (f : List ℕ) → Lawful f → (es : List Entry) (xs : List Result) (s : State) → Runs (shape_of f) (fresh f) es xs s
    → Flows first_ring (part_of f) xs s

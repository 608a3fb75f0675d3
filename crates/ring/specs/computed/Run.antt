-- What the run's function asks and leaves, in terms of the model's computed run. Not needed to believe any promise.
use Rattle.std.specs.Prelude.{◌≡◌, List, ◌++◌, ℕ, ◌+◌, ◌*◌, ◌<◌, ◌≤◌, set, length, drop, Option, Some, None}
use Rattle.model.specs.File.{total, pop_sizes, schedule_of}
use Rattle.model.specs.Codes.{Lawful}
use Rattle.model.specs.Run.{Result, State, first_ring, shape_of, fresh}
use Rattle.model.specs.Report.{numbers_of}
use Rattle.model.specs.Outcome.{marks_of}
use Rattle.model.specs.computed.Machine.{results, ends}
use Rattle.ring.specs.declared.state.Ran.{Ran}
use Rattle.ring.specs.Raced.{IsRace}
use Rattle.ring.specs.computed.Report.{told_of, Countable}

-- The next place of out, and out itself, after a move that read this byte or none.
abbrev pub next_place : (k : ℕ) → Option ℕ → ℕ
next_place k None = k
next_place k (Some byte) = k + 1

abbrev pub put_byte : List ℕ → (k : ℕ) → Option ℕ → List ℕ
put_byte l k None = l
put_byte l k (Some byte) = set l k byte

-- The computed run of a whole file.
abbrev pub results_of : List ℕ → List Result
results_of f = results (shape_of f) (fresh f) (schedule_of f)

abbrev pub end_of : List ℕ → State
end_of f = ends (shape_of f) (fresh f) (schedule_of f)

-- A lawful file, and how far apart the marks lie and the bytes read: 1, or 0 where all go to one place. Each has a place in the buffers, which have
-- these lengths.
pub record Ready (f : List ℕ) (each marks out : ℕ) : Type 0 where
  pub lawful : Lawful f
  pub each_le : each ≤ 1
  pub marks_fit : (i : ℕ) → i < length (schedule_of f) → i * each < marks
  pub out_fits : (k : ℕ) → k < total (pop_sizes f) → k * each < out

-- The buffers, where each mark and each byte has its own place, hold those of the computed run; the numbers are its numbers in either case.
pub record Finished (f : List ℕ) (each : ℕ) (marks out : List ℕ) (r : Ran) (marks' out' : List ℕ) : Type 0 where
  pub marks_are : each ≡ 1 → marks' ≡ marks_of (results_of f) ++ drop (length (schedule_of f)) marks
  pub out_is : each ≡ 1 → out' ≡ ((end_of f).queue first_ring).out ++ drop (length ((end_of f).queue first_ring).out) out
  pub numbers_are : told_of r ≡ numbers_of f (results_of f) (end_of f)
  pub countable : Countable r
  pub race_is : IsRace r.ring.race

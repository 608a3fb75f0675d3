-- A ring of a pair by itself. Where all entries name one ring, a call on the pair's file gives the marks, and that ring's bytes read and report, of the
-- call on the run file of that ring alone. So it is where the other ring has no batches, and where it has some that nobody is asked to run.
use Rattle.std.specs.Prelude.{List, [], ◌∷◌, map, ℕ, zero, suc, ◌+◌, ◌-◌, ◌*◌, ◌≤◌, ◌<◌}
use Rattle.order.specs.Trace.{Ring}
use Rattle.model.specs.File.{Entry}
use Rattle.model.specs.Outcome.{Outcome}
use Rattle.model.specs.PairFile.{pair_schedule_of, parts_of}
use Rattle.model.specs.PairOutcome.{Lent, PairOutcome}
use Rattle.promises.specs.Written.{file_of}

-- Ring r's buffers.
abbrev pub out_of : Ring → Lent → List ℕ
out_of zero b = b.out₁
out_of (suc r) b = b.out₂

abbrev pub report_in : Ring → Lent → List ℕ
report_in zero b = b.report₁
report_in (suc r) b = b.report₂

-- Every core byte names ring r: it is 0 or 1 for the first ring, 2 or 3 for the second.
abbrev pub AllName : Ring → List Entry → Type 0
AllName r [] = Unit {0}
AllName r (e ∷ es) = (2 * r ≤ e.core) × (e.core < 2 * r + 2) × AllName r es

-- The entry of the same core of the ring in a file of one ring, where the core byte is 0 or 1.
abbrev pub lowered : Ring → Entry → Entry
lowered r e = record { core = e.core - 2 * r; age = e.age }

-- The run file of ring r alone: it says the same of the ring, and its schedule is the same.
abbrev pub alone : Ring → List ℕ → List ℕ
alone r f = file_of (parts_of f r) (map (lowered r) (pair_schedule_of f))

-- THE LAW OF EMBEDDING, for either ring. The physical cores are exchanged with the second: its producer is core 1, and in the file of one ring core 0.
abbrev pub AloneIsOne : Type 0
AloneIsOne = (r : Ring) → r < 2 → (f : List ℕ) (b b' : Lent) → PairOutcome f b 0 b' → AllName r (pair_schedule_of f)
    → Outcome (alone r f) b.marks (out_of r b) (report_in r b) 0 b'.marks (out_of r b') (report_in r b')

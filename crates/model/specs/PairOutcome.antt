-- The outcome of a whole call on a pair's file: the code, and every byte of the five lent buffers afterwards.
use Rattle.std.specs.Prelude.{◌≡◌, List, ◌++◌, ℕ, length, drop}
use Rattle.order.specs.Trace.{Ring}
use Rattle.model.specs.Limits.{report_bytes}
use Rattle.model.specs.Run.{Result, State, first_ring, Runs}
use Rattle.model.specs.Report.{report_of, bytes_of}
use Rattle.model.specs.Outcome.{marks_of}
use Rattle.model.specs.PairFile.{second_ring, pair_schedule_of, parts_of, pair_shape, pair_fresh}
use Rattle.model.specs.PairCodes.{pair_code_of}

-- The lent buffers: one for the marks, and for each ring one for its bytes read and one for its report.
pub record Lent : Type 0 where
  pub marks : List ℕ
  pub out₁ : List ℕ
  pub report₁ : List ℕ
  pub out₂ : List ℕ
  pub report₂ : List ℕ

-- The numbers of ring r after a run of file f.
abbrev pub pair_numbers_of : List ℕ → Ring → List Result → State → List ℕ
pair_numbers_of f r xs z = report_of (pair_shape f) r (parts_of f r) xs z

-- A file was run: the buffers hold the marks and, for each ring, the bytes read and the report, of a run over the schedule; past these what they
-- held before.
pub record PairRan (f : List ℕ) (b b' : Lent) : Type 0 where
  pub results : List Result
  pub end : State
  pub run : Runs (pair_shape f) (pair_fresh f) (pair_schedule_of f) results end
  pub marks_are : b'.marks ≡ marks_of results ++ drop (length results) b.marks
  pub out₁_is : b'.out₁ ≡ (end.queue first_ring).out ++ drop (length (end.queue first_ring).out) b.out₁
  pub report₁_is : b'.report₁ ≡ bytes_of (pair_numbers_of f first_ring results end) ++ drop report_bytes b.report₁
  pub out₂_is : b'.out₂ ≡ (end.queue second_ring).out ++ drop (length (end.queue second_ring).out) b.out₂
  pub report₂_is : b'.report₂ ≡ bytes_of (pair_numbers_of f second_ring results end) ++ drop report_bytes b.report₂

-- The code for a file and these buffers.
abbrev pub pair_code : List ℕ → Lent → ℕ
pair_code f b = pair_code_of f (length b.marks) (length b.out₁) (length b.report₁) (length b.out₂) (length b.report₂)

-- The answer is the file's code. For code 0 the file was run; for any other nothing was written.
pub record PairOutcome (f : List ℕ) (b : Lent) (r : ℕ) (b' : Lent) : Type 0 where
  pub code_is : r ≡ pair_code f b
  pub lawful : r ≡ 0 → PairRan f b b'
  pub stays : ¬ (r ≡ 0) → b' ≡ b

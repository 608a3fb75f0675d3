-- The outcome of a whole call: the code, and every byte of the three lent buffers afterwards.
use Rattle.std.specs.Prelude.{◌≡◌, List, ◌++◌, map, ℕ, length, drop}
use Rattle.model.specs.Limits.{report_bytes}
use Rattle.model.specs.File.{schedule_of}
use Rattle.model.specs.Codes.{code_of}
use Rattle.model.specs.Run.{Result, State, first_ring, Runs, shape_of, fresh}
use Rattle.model.specs.Report.{numbers_of, bytes_of}

abbrev pub marks_of : List Result → List ℕ
marks_of xs = map (λ (x : Result). x.mark) xs

-- A file was run: the buffers hold the marks, the bytes read and the report of a run over its schedule, and past these what they held before.
pub record Ran (f marks out report marks' out' report' : List ℕ) : Type 0 where
  pub results : List Result
  pub end : State
  pub run : Runs (shape_of f) (fresh f) (schedule_of f) results end
  pub marks_are : marks' ≡ marks_of results ++ drop (length results) marks
  pub out_is : out' ≡ (end.queue first_ring).out ++ drop (length (end.queue first_ring).out) out
  pub report_is : report' ≡ bytes_of (numbers_of f results end) ++ drop report_bytes report

-- The answer is the file's code. For code 0 the file was run; for any other nothing was written.
pub record Outcome (f marks out report : List ℕ) (r : ℕ) (marks' out' report' : List ℕ) : Type 0 where
  pub code_is : r ≡ code_of f (length marks) (length out) (length report)
  pub lawful : r ≡ 0 → Ran f marks out report marks' out' report'
  pub marks_stay : ¬ (r ≡ 0) → marks' ≡ marks
  pub out_stays : ¬ (r ≡ 0) → out' ≡ out
  pub report_stays : ¬ (r ≡ 0) → report' ≡ report

-- A number written into bytes.
use Rattle.std.specs.Prelude.{cond, List, ℕ, ◌+◌, leb, length}
use Rattle.std.proofs.lemmas.List.Edits.{sets}
use Rattle.model.specs.Report.{le4}

-- The bytes with the four of number x from a place on, where that many are there; else as they were.
unfoldable pub put4_of : List ℕ → (at x : ℕ) → List ℕ
put4_of l at x = cond (leb (at + 4) (length l)) (sets l at (le4 x)) l

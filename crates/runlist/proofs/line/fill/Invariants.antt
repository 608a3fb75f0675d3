-- The piece holds the numbers so far, each with what follows it; where there is none yet it is empty.
use Rattle.std.proofs.Common.{length, ◌-◌, ◌≡◌, ◌≤◌, ◌++◌, take, drop}
use Rattle.std.specs.Str.{IsAscii}
use Rattle.runlist.specs.Row.{numbers_text}
use Rattle.runlist.proofs.line.fill.Given as goal

abbrev pub invariant-loop-next : goal.invariant-loop-next
invariant-loop-next l =
    (l.from ≤ l.next) × (l.next ≡ l.from → l.used ≡ 0) × (l.used ≤ 4096) × (numbers_text (drop l.from l.row) ≡ take l.used l.piece ++ numbers_text (drop l.next l.row)) × IsAscii (take l.used l.piece)

abbrev pub decreases-loop-next : goal.decreases-loop-next
decreases-loop-next l = length l.row - l.next

-- What was written so far and the numbers that are left are the line.
use Rattle.std.proofs.Common.{ℕ, List, length, ◌-◌, ◌≡◌, ◌++◌, drop}
use Rattle.std.specs.Fmt.{HasWritten, IsPlainFormatter}
use Rattle.runlist.specs.Row.{numbers_text}
use Rattle.runlist.proofs.line.LineDisplay.fmt.Given as goal

abbrev pub invariant-loop-from : goal.invariant-loop-from
invariant-loop-from g l =
    IsPlainFormatter l.initial.f
    → (done : List ℕ) × HasWritten g.W.Write.write_str_gives l.initial.f done l.f × (numbers_text l.self.0.now ≡ done ++ numbers_text (drop l.from l.self.0.now))

abbrev pub decreases-loop-from : goal.decreases-loop-from
decreases-loop-from g l = length l.self.0.now - l.from

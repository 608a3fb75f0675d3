-- Since the loop began, each number that it came to was written after a space.
use Rattle.std.proofs.Common.{take}
use Rattle.std.specs.Prelude.{IfSome}
use Rattle.std.specs.Fmt.{HasWritten, IsPlainFormatter}
use Rattle.runlist.specs.Row.{each_after_space}
use Rattle.runlist.proofs.row.RowDisplay.fmt.Given as goal

abbrev pub invariant-loop-number : goal.invariant-loop-number
invariant-loop-number g l =
    IsPlainFormatter l.initial.f
    → IfSome (each_after_space g.T.Display.output (take l.number-index l.rest)) (λ bs. HasWritten g.W.Write.write_str_gives l.initial.f bs l.f)

-- After i entries the ring stands for the definition's state, and the buffers hold its marks and bytes.
use Rattle.ring.proofs.Turn.{Turning}
use Rattle.ring.proofs.run.run.Given as goal

abbrev pub invariant-loop-i : goal.invariant-loop-i
invariant-loop-i l = Turning l.file l.at l.n l.each l.initial.marks l.initial.out l.marks l.out l.ring l.performed l.k l.i

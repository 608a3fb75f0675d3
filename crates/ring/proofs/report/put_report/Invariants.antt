-- The report with its first i numbers written.
use Rattle.ring.proofs.ReportLaws.{Written}
use Rattle.ring.proofs.report.put_report.Given as goal

abbrev pub invariant-loop-i : goal.invariant-loop-i
invariant-loop-i l = Written l.number-items l.initial.report l.report l.i

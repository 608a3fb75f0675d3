-- Each turn writes one number more, and the row is the first number with all others behind it.
use Rattle.runlist.proofs.Rows.{one_more_written, row_written}
use Rattle.runlist.proofs.row.RowDisplay.fmt.Goals as goal

pub loop-number-preserved : goal.loop-number-preserved
loop-number-preserved g c =
    λ plain.
    one_more_written _ _ _ _ _ _ _ _ c.write_str.new.self c.loop-number-test.true c.number-item.is (c.loop-number.invariant plain) c.in_ok-write_str.ensures.writes c.in_ok-fmt-2.ensures.writes

pub returns-clause-writes : goal.returns-clause-writes
returns-clause-writes g c =
    row_written g.W.Write.write_str_gives g.T.Display.output c.args.f.now c.fmt.new.f c.loop-number.f _ _ _ _ c.in-Some.ensures.cases.0 c.loop-number-test.false c.in_ok-fmt.ensures.writes c.loop-number.invariant

-- The code's line goes out in three texts, then the report number by number, then the two lines in pieces.
use Rattle.std.proofs.Common.{subst}
use Rattle.std.specs.Fmt.{DisplaysOnOk}
use Rattle.runlist.specs.Row.{decimals}
use Rattle.runlist.proofs.Lines.{played_is}
use Rattle.runlist.proofs.played.PlayedDisplay.fmt.Goals as goal

pub returns-clause-writes : goal.returns-clause-writes
returns-clause-writes g c =
    let run = c.args.self.now in
    subst (λ o. DisplaysOnOk g.W.Write.write_str_gives c.args.f.now c.write.result o c.write.new.self) (played_is (decimals run.report) run.marks.now run.bytes.now) c.write.ensures.writes

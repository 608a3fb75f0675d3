-- A file that is not refused has room for its marks, its bytes read and its report; what the run leaves there is the outcome.
use Rattle.ring.proofs.Whole.{ready_for, report_for, ran_outcome, told_long}
use Rattle.ring.proofs.ferrulique_run.Goals as goal

pub run-ran-requires : goal.run-ran-requires
run-ran-requires c = ready_for _ c.in_ok-check_call.ensures

pub put_report-requires : goal.put_report-requires
put_report-requires c = record { room = report_for _ _ _ _ c.in_ok-check_call.ensures; twelve = told_long _ c.numbers.ensures }

pub returns : goal.returns
returns c = ran_outcome c.in_ok-check_call.ensures c.run-ran.ensures c.numbers.ensures c.put_report.ensures

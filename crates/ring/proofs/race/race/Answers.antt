-- The run needs one place for all marks and one for all bytes read, and its race is the answer.
use Rattle.std.proofs.Common.{sym, rules}
use Rattle.ring.proofs.Whole.{ready_over}
use Rattle.ring.proofs.Raced.{ran_race}
use Rattle.ring.proofs.race.race.Goals as goal

pub run-ran-requires : goal.run-ran-requires
run-ran-requires c = ready_over (sym c.in_ok-check_file.ensures)

pub returns-clause-answer : goal.returns-clause-answer
returns-clause-answer c = ran_race (sym c.in_ok-check_file.ensures) c.run-ran.ensures (search rules) (search rules)

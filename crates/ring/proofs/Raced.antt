-- The race question: what the run leaves with no buffer lent is the definition's answer.
use mathlib.Core.Path.{◌≡◌, refl, ap, sym, ◌∙◌}
use mathlib.Core.List.{List}
use Prim.Native.Nat.{ℕ}
use lib.ListN.{get_or}
use Rattle.model.specs.File.{schedule_of}
use Rattle.model.specs.Codes.{file_code}
use Rattle.model.specs.Run.{shape_of, fresh}
use Rattle.model.specs.RaceAnswer.{race_place, partner_place, RaceAnswer}
use Rattle.model.proofs.Some.{some_run}
use Rattle.ring.specs.declared.state.Ran.{Ran}
use Rattle.ring.specs.Raced.{race_entry, race_partner}
use Rattle.ring.specs.computed.Report.{told_of}
use Rattle.ring.specs.computed.Run.{results_of, end_of, Finished}

-- A lawful file: the two numbers are those of the computed run, which the definition allows.
pub ran_race : {f marks out marks' out' : List ℕ} {r : Ran} → file_code f ≡ 0 → Finished f 0 marks out r marks' out'
    → {entry partner : ℕ} → entry ≡ race_entry r.ring.race → partner ≡ race_partner r.ring.race → RaceAnswer f 0 entry partner
unfolding told_of
ran_race {f} e z ee ep = record {
  code_is = sym e;
  lawful = λ _. record {
    results = results_of f;
    end = end_of f;
    run = some_run (shape_of f) (fresh f) (schedule_of f) tt;
    entry_is = ee ∙ ap (λ (l : List ℕ). get_or l race_place 0) z.numbers_are;
    partner_is = ep ∙ ap (λ (l : List ℕ). get_or l partner_place 0) z.numbers_are;
  };
  no_entry = λ k. absurd (k refl);
  no_partner = λ k. absurd (k refl);
}

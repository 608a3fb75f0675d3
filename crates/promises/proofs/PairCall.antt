-- The promises of every setting and of eight strong orders, as facts about a call.
use mathlib.Core.Path.{sym, ◌∙◌}
use mathlib.Core.List.{List, ◌++◌}
use Prim.Native.Nat.{ℕ, zero, suc, ◌≤◌}
use native.Mathlib.Omega.{arith}
use lib.ListN.{length, drop}
use Rattle.order.specs.Trace.{Ring}
use Rattle.model.specs.Limits.{report_bytes}
use Rattle.model.specs.File.{total}
use Rattle.model.specs.Run.{first_ring}
use Rattle.model.specs.Report.{of_ring, bytes_of}
use Rattle.model.specs.PairFile.{second_ring, push_sizes_of, pair_schedule_at, parts_of, names_pair}
use Rattle.model.specs.PairOutcome.{pair_numbers_of}
use Rattle.model.proofs.PairRanges.{PairRanges, pair_ranges, pair_code_means}
use Rattle.promises.specs.Call.{Told, NoRaceTold}
use Rattle.promises.specs.PairCall.{AlwaysPairCallFlows, StrongPairCallKeeps}
use Rattle.promises.proofs.Strong.{calm}
use Rattle.promises.proofs.Call.{ring_told, no_race_told, marks_there}
use Rattle.promises.proofs.Pair.{pair_fair, pair_strong}

-- A ring has no more bytes to push than the file has.
bytes_few : (f : List ℕ) → PairRanges f → (r : Ring) → total (push_sizes_of r f) ≤ 65536
unfolding pair_schedule_at push_sizes_of
bytes_few f h zero = let a = h.bytes_in in let b = h.bounded in omega arith
bytes_few f h (suc r) = let a = h.bytes_in in let b = h.bounded in omega arith

-- THE PROMISE OF EVERY CALL
pub always_pair_call_flows : AlwaysPairCallFlows
always_pair_call_flows f b r b' o code0 =
    let lawful = (pair_code_means f _ _ _ _ _ (sym o.code_is ∙ code0)).0 in
    let ran = o.lawful code0 in
    let h = pair_ranges f lawful in
    let told : (q : Ring) (rest past : List ℕ)
    → Told q (parts_of f q) (of_ring q ran.results) ((ran.end.queue q).out ++ past) (bytes_of (pair_numbers_of f q ran.results ran.end) ++ rest) =
    λ q rest past. ring_told (parts_of f) names_pair (pair_fair f lawful) ran.run q (bytes_few f h q) rest past in
    record {
      results = ran.results;
      end = ran.end;
      run = ran.run;
      marks_are = rw ran.marks_are (marks_there ran.results b.marks);
      first = rw (ran.out₁_is, ran.report₁_is) (told first_ring (drop report_bytes b.report₁) (drop (length (ran.end.queue first_ring).out) b.out₁));
      second = rw (ran.out₂_is, ran.report₂_is) (told second_ring (drop report_bytes b.report₂) (drop (length (ran.end.queue second_ring).out) b.out₂));
    }

-- THE PROMISE OF A CALL WITH STRONG ORDERS
pub strong_pair_call_keeps : StrongPairCallKeeps
strong_pair_call_keeps f b r b' o code0 strong₁ strong₂ =
    let lawful = (pair_code_means f _ _ _ _ _ (sym o.code_is ∙ code0)).0 in
    let ran = o.lawful code0 in
    let fair = pair_fair f lawful in
    let never = (calm (parts_of f) names_pair fair ran.run (pair_strong f strong₁ strong₂)).no_race_mark in
    let h = pair_ranges f lawful in
    let quiet : (q : Ring) (rest : List ℕ) → NoRaceTold (bytes_of (pair_numbers_of f q ran.results ran.end) ++ rest) =
    λ q rest. no_race_told (parts_of f) names_pair fair ran.run q (bytes_few f h q) never rest in
    record {
      flows = always_pair_call_flows f b r b' o code0;
      no_race₁ = rw ran.report₁_is (quiet first_ring (drop report_bytes b.report₁));
      no_race₂ = rw ran.report₂_is (quiet second_ring (drop report_bytes b.report₂));
    }

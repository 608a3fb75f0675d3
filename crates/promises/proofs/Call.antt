-- What a report and an out tell of a ring, for any rings and all settings; and the promise of strong orders as facts about a call.
use mathlib.Core.Path.{◌≡◌, refl, sym, ap, ◌∙◌, subst}
use mathlib.Core.Bool.{Bool, true, false, cond, ◌&&◌}
use mathlib.Core.List.{List, [], ◌∷◌, ◌++◌, append_assoc}
use Prim.Native.Nat.{ℕ, suc, ◌+◌, ◌≤◌}
use native.Mathlib.Omega.{arith}
use lib.Dec.{eqb}
use lib.ListN.{length, take, drop, length-map}
use lib.Seq.{take_at}
use borrow.Author.Tests.{ne_eqb}
use Rattle.order.specs.Trace.{Core, other, Ring}
use Rattle.order.proofs.Trace.{cond_elim, same_self}
use Rattle.model.specs.Limits.{most_file_bytes, report_bytes}
use Rattle.model.specs.File.{total, push_sizes, schedule_at, Entry, schedule_of, Part, part_of}
use Rattle.model.specs.Marks.{batch_failed, index_stored, race_found}
use Rattle.model.specs.Queue.{Named, Shape, pusher}
use Rattle.model.specs.Run.{Result, State, first_ring, Runs, machine_of, fresh_of, names_one}
use Rattle.model.specs.Report.{marked_of, completed_of, of_ring, entry_with, raced_at, partner_of, occupancy, report_of, numbers_of, bytes_of}
use Rattle.model.specs.Outcome.{marks_of}
use Rattle.model.proofs.Inverse.{reads_back}
use Rattle.model.proofs.Laid.{Ranges, lawful_ranges, code_means}
use Rattle.model.proofs.OneRing.{of_one_ring}
use Rattle.model.proofs.Report.{completed_bytes}
use Rattle.promises.specs.Flows.{pushed, popped, pushed_bytes, popped_bytes, Flows}
use Rattle.promises.specs.Strong.{NeverRaced}
use Rattle.promises.specs.Call.{bytes_pushed, bytes_popped, occupancy_told, Told, NoRaceTold, AlwaysCallFlows, StrongCallKeeps}
use Rattle.promises.proofs.Pushed.{not_same}
use Rattle.promises.proofs.Strong.{Fair, flows, lawful_fair, strong_keeps}

-- Where no entry raced, the report has no race.
no_entry : (r : Ring) (n : ℕ) (xs : List Result) → NeverRaced xs → entry_with (raced_at r) n xs ≡ 0
no_entry r n [] h = refl
no_entry r n (x ∷ xs) h = rw (ne_eqb x.mark race_found h.0, and_off (eqb x.ring r)) (no_entry r (suc n) xs h.1)
  where
    and_off : (b : Bool) → (b && false) ≡ false
    and_off true = refl
    and_off false = refl

never_of : (r : Ring) (xs : List Result) → NeverRaced xs → NeverRaced (of_ring r xs)
never_of r [] h = tt
never_of r (x ∷ xs) h = cond_elim NeverRaced (eqb x.ring r) (x ∷ of_ring r xs) (of_ring r xs) (λ e. (h.0, never_of r xs h.1)) (λ e. never_of r xs h.1)

no_partner : (xs : List Result) → NeverRaced xs → partner_of xs ≡ 0
no_partner [] h = refl
no_partner (x ∷ xs) h = rw (ne_eqb x.mark race_found h.0) (no_partner xs h.1)

-- No more bytes are completed than the batches have.
completed_le : (c : Core) (xs : List Result) (bs : List ℕ) → total (completed_of c xs bs) ≤ total bs
unfolding total
completed_le c [] bs = omega arith
completed_le c (x ∷ xs) [] = omega arith
completed_le c (x ∷ xs) (b ∷ bs) =
    let i = completed_le c xs bs in let j = completed_le c xs (b ∷ bs) in
    cond_elim (λ (l : List ℕ). total l ≤ b + total bs) (marked_of c batch_failed x) (completed_of c xs bs)
    (cond (marked_of c index_stored x) (b ∷ completed_of c xs bs) (completed_of c xs (b ∷ bs))) (λ e. omega arith)
    (λ e. cond_elim (λ (l : List ℕ). total l ≤ b + total bs) (marked_of c index_stored x) (b ∷ completed_of c xs bs) (completed_of c xs (b ∷ bs))
    (λ k. omega arith) (λ k. j))

-- A ring's report and out, read.
module _ (p : Ring → Part) (names : ℕ → Named) (fair : (r : Ring) → Fair (p r)) {es : List Entry} {xs : List Result} {s : State}
    (run : Runs (machine_of p names) (fresh_of p) es xs s) (r : Ring) (small : total (p r).push_sizes ≤ most_file_bytes) where
  abbrev g : Shape
  g = machine_of p names

  abbrev mine : List Result
  mine = of_ring r xs

  abbrev k : Flows r (p r) mine s
  k = flows p names fair run r

  few : pushed r (p r) mine ≤ most_file_bytes
  few = let a = completed_le (pusher r) mine (p r).push_sizes in omega arith

  tells_pushed : (rest : List ℕ) → bytes_pushed (bytes_of (report_of g r (p r) xs s) ++ rest) ≡ pushed r (p r) mine
  unfolding report_of
  tells_pushed rest = let a = few in reads_back (report_of g r (p r) xs s) rest 2 (omega arith) (omega arith)

  tells_popped : (rest : List ℕ) → bytes_popped (bytes_of (report_of g r (p r) xs s) ++ rest) ≡ popped r (p r) mine
  unfolding report_of
  tells_popped rest = let a = few in let b = k.occupancy_is in reads_back (report_of g r (p r) xs s) rest 3 (omega arith) (omega arith)

  tells_occupancy : (rest : List ℕ) → occupancy_told (bytes_of (report_of g r (p r) xs s) ++ rest) ≡ occupancy r (p r).modulus s.trace
  unfolding report_of
  tells_occupancy rest = let a = few in let b = k.occupancy_is in reads_back (report_of g r (p r) xs s) rest 5 (omega arith) (omega arith)

  -- WHATEVER THE ORDERS, what the buffers tell of the ring.
  pub ring_told : (rest past : List ℕ) → Told r (p r) mine ((s.queue r).out ++ past) (bytes_of (report_of g r (p r) xs s) ++ rest)
  ring_told rest past =
      let pu = tells_pushed rest in
      let po = tells_popped rest in
      let oc = tells_occupancy rest in
      let oi = k.occupancy_is in
      let wr = k.within_ring in
      let ins : length (pushed_bytes r s) ≡ pushed r (p r) mine = rw (same_self (pusher r)) at (completed_bytes p names r (pusher r) run) in
      let outs : length (popped_bytes r s) ≡ popped r (p r) mine = rw (not_same (pusher r)) at (completed_bytes p names r (other (pusher r)) run) in
      record {
        occupancy_is = omega arith;
        within_ring = omega arith;
        as_many = ap length (sym k.from_the_file) ∙ ins ∙ sym pu;
        first_in_first_out = rw (po, k.out_begins)
            (ap (take (popped r (p r) mine)) (append_assoc (popped_bytes r s) ((s.queue r).side (other (pusher r))).moved past)
            ∙ take_at (popped_bytes r s) _ (popped r (p r) mine) outs ∙ k.first_in_first_out ∙ ap (take (popped r (p r) mine)) k.from_the_file);
      }

  -- WHERE NO ENTRY RACED, the report tells of no race.
  pub no_race_told : NeverRaced xs → (rest : List ℕ) → NoRaceTold (bytes_of (report_of g r (p r) xs s) ++ rest)
  unfolding report_of
  no_race_told h rest =
      let e = no_entry r 1 xs h in
      let q = no_partner mine (never_of r xs h) in
      record {
        no_race_entry = reads_back (report_of g r (p r) xs s) rest 8 (omega arith) (omega arith) ∙ e;
        no_race_partner = reads_back (report_of g r (p r) xs s) rest 9 (omega arith) (omega arith) ∙ q;
      }

-- The marks in their buffer.
pub marks_there : (xs : List Result) (marks : List ℕ) → take (length xs) (marks_of xs ++ drop (length xs) marks) ≡ marks_of xs
marks_there xs marks = take_at (marks_of xs) (drop (length xs) marks) (length xs) (length-map xs (λ (x : Result). x.mark))

bytes_few : (f : List ℕ) → Ranges f → total (push_sizes f) ≤ 65536
unfolding schedule_at
bytes_few f h = let a = h.bytes_in in let b = h.bounded in omega arith

-- THE PROMISE OF EVERY CALL
pub always_call_flows : AlwaysCallFlows
always_call_flows f marks out report r marks' out' report' o zero =
    let lawful = (code_means f (length marks) (length out) (length report) (sym o.code_is ∙ zero)).0 in
    let ran = o.lawful zero in
    let xs = ran.results in
    let s = ran.end in
    let past = drop (length (s.queue first_ring).out) out in
    let rest = drop report_bytes report in
    let few = bytes_few f (lawful_ranges f lawful) in
    let fair : (r : Ring) → Fair (part_of f) = λ r. lawful_fair f lawful in
    record {
      results = xs;
      end = s;
      run = ran.run;
      marks_are = rw ran.marks_are (marks_there xs marks);
      told = rw (ran.out_is, ran.report_is) (subst (λ l. Told first_ring (part_of f) l ((s.queue first_ring).out ++ past) (bytes_of (numbers_of f xs s) ++ rest))
          (of_one_ring f ran.run) (ring_told (λ r. part_of f) names_one fair ran.run first_ring few rest past));
    }

-- THE PROMISE OF A CALL WITH STRONG ORDERS
pub strong_call_keeps : StrongCallKeeps
strong_call_keeps f marks out report r marks' out' report' o zero strong =
    let lawful = (code_means f (length marks) (length out) (length report) (sym o.code_is ∙ zero)).0 in
    let ran = o.lawful zero in
    let k = strong_keeps f lawful strong (schedule_of f) ran.results ran.end ran.run in
    record {
      flows = always_call_flows f marks out report r marks' out' report' o zero;
      no_race = rw ran.report_is (no_race_told (λ r. part_of f) names_one (λ r. lawful_fair f lawful) ran.run first_ring (bytes_few f (lawful_ranges f lawful))
          k.calm.no_race_mark (drop report_bytes report));
    }

-- The race question beside a full run: the same code, the same two numbers, and the number that a C host takes apart.
use mathlib.Core.Path.{◌≡◌, refl, sym, ap, ◌∙◌}
use mathlib.Core.Logic.{◌⊎◌, inl, inr, ⊎_elim}
use mathlib.Core.Bool.{Bool, true, false, cond}
use mathlib.Core.List.{List, [], ◌∷◌}
use Prim.Native.Nat.{ℕ, suc, ◌+◌, ◌≤◌, ◌<◌}
use native.Mathlib.Omega.{arith}
use native.Mathlib.Decide.{dec_le}
use lib.Dec.{ltb}
use lib.ListN.{length, get_or, drop}
use Rattle.order.specs.Trace.{other, slot, act}
use Rattle.order.proofs.Trace.{act_in, accesses_who}
use Rattle.model.specs.Limits.{report_bytes}
use Rattle.model.specs.File.{total, pop_sizes, part_of, schedule_of, Entry}
use Rattle.model.specs.Codes.{buffer_table, first_of, file_code, Lawful}
use Rattle.model.specs.Marks.{race_found}
use Rattle.model.specs.Queue.{Shape}
use Rattle.model.specs.Run.{Result, State, first_ring, Runs, stop, move, names_one, shape_of, fresh}
use Rattle.model.specs.Report.{marked, partner_of, race_of, of_ring, numbers_of}
use Rattle.model.proofs.Codes.{file_most, file_first, buffers_next}
use Rattle.model.proofs.Halted.{reported_race}
use Rattle.model.proofs.Inverse.{reads_back}
use Rattle.model.proofs.Laid.{lawful_ranges, lawful_laid, code_means}
use Rattle.model.proofs.One.{run_one}
use Rattle.model.proofs.OneRing.{race_from, numbers_of_one, of_one_ring, race_of_all, all_of_one}
use Rattle.model.proofs.Worked.{run_length}
use Rattle.promises.specs.RaceOnly.{RaceCode, RaceNumbers, RaceUnpacks}
use Rattle.promises.proofs.Weak.{race_in}

-- The trace has an action for each entry.
trace_long : {g : Shape} {s z : State} {es : List Entry} {xs : List Result} → Runs g s es xs z → length z.trace ≡ length s.trace + length xs
trace_long stop = omega arith
trace_long (move a p) = let ih = trace_long p in omega arith

-- Where nothing raced there is no partner.
partner_none : (n : ℕ) (xs : List Result) → 0 < n → race_from n xs ≡ 0 → partner_of xs ≡ 0
partner_none n [] l e = refl
partner_none n (x ∷ xs) l e = go (marked race_found x) e (partner_none (suc n) xs (omega arith))
  where
    go : (b : Bool) → cond b n (race_from (suc n) xs) ≡ 0 → (race_from (suc n) xs ≡ 0 → partner_of xs ≡ 0) → cond b x.partner (partner_of xs) ≡ 0
    go true e ih = absurd (omega arith)
    go false e ih = ih e

module _ (f : List ℕ) (h : Lawful f) {xs : List Result} {z : State} (run : Runs (shape_of f) (fresh f) (schedule_of f) xs z) where
  few : length xs < 32769
  few = omega (arith, run_length run, (lawful_laid f h).entries, (lawful_ranges f h).bounded)

  -- The racing entry and its partner are entries of the run.
  entry_few : race_from 1 xs ≤ 32769
  entry_few = omega (arith, race_in 1 xs, few)

  partner_few : partner_of xs < 32769
  partner_few = elim (dec_le (race_from 1 xs) 0) [
    | yes e ↦ omega (arith, partner_none 1 xs (omega arith) (omega arith))
    | no e ↦
        let whole : race_of first_ring xs ≡ race_from 1 xs = race_of_all first_ring 1 xs (all_of_one f run) in
        let u = (reported_race (λ r. part_of f) names_one first_ring run (λ k. omega arith)).clash in
        let p : partner_of (of_ring first_ring xs) ≡ partner_of xs = ap partner_of (of_one_ring f run) in
        omega (
          arith,
          act_in z.trace (partner_of (of_ring first_ring xs)) (other u.core)
              (accesses_who (other u.core) (slot u.ring u.at) (act z.trace (partner_of (of_ring first_ring xs))) u.accessed_i),
          trace_long run,
          few,
          p,
        )
  ]

  -- The two numbers of the report, as they are written.
  entry_small : get_or (numbers_of f xs z) 8 0 ≤ 32769
  entry_small = rw (numbers_of_one f run) entry_few

  partner_small : get_or (numbers_of f xs z) 9 0 < 32769
  partner_small = rw (numbers_of_one f run) partner_few

  twelve : length (numbers_of f xs z) ≡ 12
  twelve = ap length (numbers_of_one f run)

-- THE TWO NUMBERS
pub race_numbers : RaceNumbers
race_numbers f marks out report r marks' out' report' o zero code entry partner a =
    let lawful = (code_means f (length marks) (length out) (length report) (sym o.code_is ∙ zero)).0 in
    let ran = o.lawful zero in
    let told = a.lawful (a.code_is ∙ lawful) in
    let same = run_one told.run ran.run in
    let rest : List ℕ = drop report_bytes report in
    let ns : List ℕ = numbers_of f ran.results ran.end in
    let e : entry ≡ get_or ns 8 0 = told.entry_is ∙ rw (same.0, same.1) refl in
    let p : partner ≡ get_or ns 9 0 = told.partner_is ∙ rw (same.0, same.1) refl in
    let long = twelve f lawful ran.run in (
      e ∙ sym (reads_back ns rest 8 (omega (arith, long)) (omega (arith, entry_small f lawful ran.run))) ∙ rw ran.report_is refl,
      p ∙ sym (reads_back ns rest 9 (omega (arith, long)) (omega (arith, partner_small f lawful ran.run))) ∙ rw ran.report_is refl,
    )

-- The codes of the buffers are 0 or from 9 on.
buffer_codes : (x y z : Bool) → (◌≡◌ {A = ℕ} (cond x 9 (cond y 10 (cond z 11 0))) 0) ⊎ (9 ≤ cond x 9 (cond y 10 (cond z 11 0)))
buffer_codes true y z = inr (omega arith)
buffer_codes false true z = inr (omega arith)
buffer_codes false false true = inr (omega arith)
buffer_codes false false false = inl refl

-- THE CODE
pub race_code : RaceCode
unfolding buffer_table
race_code f marks out report r marks' out' report' o code entry partner a = elim (dec_le (file_code f) 0) [
  | no h ↦
      let same : file_code f ≡ r = file_first f (length marks) (length out) (length report) (λ z. omega arith) ∙ sym o.code_is in
      (λ _. a.code_is ∙ same, λ l. absurd (omega (arith, file_most f)))
  | yes h ↦
      let zero : file_code f ≡ 0 = omega arith in
      let next : r ≡ first_of (buffer_table f (length marks) (length out) (length report)) = o.code_is ∙ buffers_next f (length marks) (length out) (length report) zero in
      let c : code ≡ 0 = a.code_is ∙ zero in (
        λ l. ⊎_elim (λ z. c ∙ sym (next ∙ z)) (λ k. absurd (omega (arith, next)))
            (buffer_codes (ltb (length marks) (length (schedule_of f))) (ltb (length out) (total (pop_sizes f))) (ltb (length report) report_bytes)),
        λ _. c,
      )
]

-- THE ONE NUMBER
pub race_unpacks : RaceUnpacks
race_unpacks f r o = elim (dec_le (file_code f) 0) [
  | yes h ↦
      let told = o.answer.lawful (o.answer.code_is ∙ omega arith) in
      let e = entry_small f (omega arith) told.run in
      let p = partner_small f (omega arith) told.run in
      omega (arith, o.packed_is, o.answer.code_is, told.entry_is, told.partner_is)
  | no h ↦
      let e = o.answer.no_entry (λ z. omega (arith, o.answer.code_is)) in
      let p = o.answer.no_partner (λ z. omega (arith, o.answer.code_is)) in
      omega (arith, o.packed_is, o.answer.code_is, file_most f)
]

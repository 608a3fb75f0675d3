-- The law of embedding: a call on a pair's file whose entries all name one ring is a call on the run file of that ring alone.
use mathlib.Core.Path.{◌≡◌, refl, sym, ap, ◌∙◌, subst}
use mathlib.Core.List.{List, [], ◌∷◌, ◌++◌, map}
use Prim.Native.Nat.{ℕ, zero, suc, ◌+◌, ◌-◌, ◌*◌, ◌≤◌, ◌<◌}
use native.Mathlib.Omega.{arith}
use lib.ListN.{length, drop, length-map}
use Rattle.order.specs.Trace.{core0, core1, Ring}
use Rattle.model.specs.Limits.{report_bytes}
use Rattle.model.specs.File.{total, Entry, schedule_of, Part, part_of}
use Rattle.model.specs.Queue.{Queue}
use Rattle.model.specs.Run.{State, first_ring, Runs, machine_of, fresh_of, names_one, shape_of, fresh}
use Rattle.model.specs.Report.{report_of, numbers_of, bytes_of}
use Rattle.model.specs.Outcome.{marks_of}
use Rattle.model.specs.PairFile.{push_sizes_of, pop_sizes_of, push_bytes_of, pair_schedule_at, pair_schedule_of, parts_of, names_pair, pair_shape, pair_fresh}
use Rattle.model.specs.PairCodes.{LawfulPair}
use Rattle.model.specs.PairOutcome.{Lent, pair_numbers_of, PairRan}
use Rattle.model.specs.computed.Machine.{results, ends}
use Rattle.model.proofs.OneRing.{all_of_one}
use Rattle.model.proofs.Laid.{lawful_code}
use Rattle.model.proofs.PairRanges.{pair_ranges, PairRoom, pair_code_means}
use Rattle.model.proofs.PairLaid.{pair_laid}
use Rattle.model.proofs.Some.{some_run}
use Rattle.model.proofs.One.{run_one}
use Rattle.promises.specs.Written.{file_of}
use Rattle.promises.specs.Alone.{out_of, report_in, AllName, lowered, alone, AloneIsOne}
use Rattle.promises.proofs.Written.{Whole, InRange, written_schedule, written_part, written_length, written_lawful}
use Rattle.promises.proofs.SeatedRun.{result_at, Same, AllSame, run_same, fresh_same}
use Rattle.promises.proofs.SeatedReport.{all_at, marks_same, report_same}

-- The core bytes of ring r name its cores, and lowered they name the same in a file of one ring.
same_entry : (r : Ring) → r < 2 → (e : Entry) → 2 * r ≤ e.core → e.core < 2 * r + 2 → Same names_pair r e (lowered r e)
same_entry r k e = go r k e.core e.age
  where
    go : (r : Ring) → r < 2 → (n age : ℕ) → 2 * r ≤ n → n < 2 * r + 2 → Same names_pair r (record { core = n; age = age }) (record { core = n - 2 * r; age = age })
    go zero k zero age l h = record { core = core0; names_it = refl; one_names_it = refl; age_is = refl }
    go zero k (suc zero) age l h = record { core = core1; names_it = refl; one_names_it = refl; age_is = refl }
    go zero k (suc (suc n)) age l h = absurd (omega arith)
    go (suc zero) k zero age l h = absurd (omega arith)
    go (suc zero) k (suc zero) age l h = absurd (omega arith)
    go (suc zero) k (suc (suc zero)) age l h = record { core = core0; names_it = refl; one_names_it = refl; age_is = refl }
    go (suc zero) k (suc (suc (suc zero))) age l h = record { core = core1; names_it = refl; one_names_it = refl; age_is = refl }
    go (suc zero) k (suc (suc (suc (suc n)))) age l h = absurd (omega arith)
    go (suc (suc r)) k n age l h = absurd (omega arith)

same_entries : (r : Ring) → r < 2 → (es : List Entry) → AllName r es → AllSame names_pair r es (map (lowered r) es)
same_entries r k [] h = tt
same_entries r k (e ∷ es) h = (same_entry r k e h.0 h.1, same_entries r k es h.2)

-- What a lawful pair's file says of ring r can be written by itself.
module _ (f : List ℕ) (lawful : LawfulPair f) (r : Ring) where
  pub part_whole : Whole (parts_of f r)
  part_whole = let h = ((pair_ranges f lawful).ring r).modulus_high in record { modulus_fits = omega arith; bytes_are = (pair_laid f lawful).bytes r }

  pub part_in_range : InRange (parts_of f r)
  part_in_range = (pair_ranges f lawful).ring r

-- The ring alone needs no more bytes than the pair.
before_entries : (f : List ℕ) → LawfulPair f → (r : Ring) → r < 2
    → 8 + length (push_sizes_of r f) + length (pop_sizes_of r f) + length (push_bytes_of r f) ≤ pair_schedule_at f
unfolding pair_schedule_at
before_entries f lawful zero k =
    let l = pair_laid f lawful in let p = l.push-sizes 0 in let q = l.pop-sizes 0 in let b = l.bytes 0 in omega arith
before_entries f lawful (suc zero) k =
    let l = pair_laid f lawful in let p = l.push-sizes 1 in let q = l.pop-sizes 1 in let b = l.bytes 1 in omega arith
before_entries f lawful (suc (suc r)) k = absurd (omega arith)

alone_short : (f : List ℕ) → LawfulPair f → (r : Ring) → r < 2 → length (alone r f) ≤ 65536
alone_short f lawful r k =
    let h = pair_ranges f lawful in
    let l = (pair_laid f lawful).entries in
    let n = written_length (parts_of f r) (part_whole f lawful r) (map (lowered r) (pair_schedule_of f)) in
    let m = length-map (pair_schedule_of f) (lowered r) in
    let b = before_entries f lawful r k in
    omega (arith, h.bounded, h.bytes_in)

-- Ring r's buffers after a call that ran the file.
ring_out : {f : List ℕ} {b b' : Lent} (ran : PairRan f b b') (r : Ring) → r < 2
    → out_of r b' ≡ (ran.end.queue r).out ++ drop (length (ran.end.queue r).out) (out_of r b)
ring_out ran zero k = ran.out₁_is
ring_out ran (suc zero) k = ran.out₂_is
ring_out ran (suc (suc r)) k = absurd (omega arith)

ring_report : {f : List ℕ} {b b' : Lent} (ran : PairRan f b b') (r : Ring) → r < 2
    → report_in r b' ≡ bytes_of (pair_numbers_of f r ran.results ran.end) ++ drop report_bytes (report_in r b)
ring_report ran zero k = ran.report₁_is
ring_report ran (suc zero) k = ran.report₂_is
ring_report ran (suc (suc r)) k = absurd (omega arith)

ring_room : (f : List ℕ) (b : Lent)
    → PairRoom f (length b.marks) (length b.out₁) (length b.report₁) (length b.out₂) (length b.report₂) → (r : Ring) → r < 2
    → (total (pop_sizes_of r f) ≤ length (out_of r b)) × (report_bytes ≤ length (report_in r b))
ring_room f b h zero k = (h.out₁_fits, h.report₁_fits)
ring_room f b h (suc zero) k = (h.out₂_fits, h.report₂_fits)
ring_room f b h (suc (suc r)) k = absurd (omega arith)

-- A RING OF A PAIR BY ITSELF
pub alone_is_one : AloneIsOne
alone_is_one r k f b b' o all =
    let means = pair_code_means f (length b.marks) (length b.out₁) (length b.report₁) (length b.out₂) (length b.report₂) (sym o.code_is) in
    let lawful = means.0 in
    let room = means.1 in
    let p = parts_of f r in
    let es = pair_schedule_of f in
    let es₁ = map (lowered r) es in
    let w = part_whole f lawful r in
    let part : part_of (file_of p es₁) ≡ p = written_part p w es₁ in
    let schedule : schedule_of (file_of p es₁) ≡ es₁ = written_schedule p w es₁ in
    let xs₁ = results (machine_of (λ q. p) names_one) (fresh_of (λ q. p)) es₁ in
    let z₁ = ends (machine_of (λ q. p) names_one) (fresh_of (λ q. p)) es₁ in
    let ran = o.lawful refl in
    let one = run_one ran.run (some_run (pair_shape f) (pair_fresh f) es tt) in
    let same = run_same (parts_of f) names_pair r (fresh_of (parts_of f)) (fresh_of (λ q. p)) (fresh_same (parts_of f) names_pair r) tt tt es es₁ (same_entries r k es all) in
    let xs_are : ran.results ≡ all_at r xs₁ = one.0 ∙ same.0 in
    let fits = ring_room f b room r k in
    let alone_run : Runs (shape_of (file_of p es₁)) (fresh (file_of p es₁)) (schedule_of (file_of p es₁)) xs₁ z₁ =
    subst (λ (l : List Entry). Runs (shape_of (file_of p es₁)) (fresh (file_of p es₁)) l xs₁ z₁) (sym schedule)
    (subst (λ (q : Part). Runs (machine_of (λ a. q) names_one) (fresh_of (λ a. q)) es₁ xs₁ z₁) (sym part) (some_run (machine_of (λ q. p) names_one) (fresh_of (λ q. p)) es₁ tt)) in
    let numbers : pair_numbers_of f r ran.results ran.end ≡ numbers_of (file_of p es₁) xs₁ z₁ =
    (λ i. report_of (pair_shape f) r p (xs_are i) (one.1 i))
    ∙ report_same (parts_of f) names_pair r xs₁ (all_of_one (file_of p es₁) alone_run) (ends (pair_shape f) (pair_fresh f) es) z₁ same.1 same.2
    ∙ (λ i. report_of (machine_of (λ a. sym part i) names_one) first_ring (sym part i) xs₁ z₁) in
    let out : (ran.end.queue r).out ≡ (z₁.queue first_ring).out = ap (λ (z : State). (z.queue r).out) one.1 ∙ ap (λ (q : Queue). q.out) same.1.queue_is in
    record {
      code_is = sym (lawful_code (file_of p es₁) _ _ _ (written_lawful p w es₁ (part_in_range f lawful r) (alone_short f lawful r k))
          (rw schedule (omega (arith, length-map es (lowered r), room.marks_fit))) (rw (ap (λ (q : Part). q.pop_sizes) part) fits.0) fits.1);
      lawful = λ e. record {
        results = xs₁;
        end = z₁;
        run = alone_run;
        marks_are = ran.marks_are ∙ (λ i. marks_of (xs_are i) ++ drop (length (xs_are i)) b.marks)
            ∙ (λ i. marks_same r xs₁ i ++ drop (length-map xs₁ (result_at r) i) b.marks);
        out_is = ring_out ran r k ∙ (λ i. out i ++ drop (length (out i)) (out_of r b));
        report_is = ring_report ran r k ∙ (λ i. bytes_of (numbers i) ++ drop report_bytes (report_in r b));
      };
      marks_stay = λ n. absurd (n refl);
      out_stays = λ n. absurd (n refl);
      report_stays = λ n. absurd (n refl);
    }

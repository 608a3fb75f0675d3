-- Every setting other than all strong races, at every lawful m and M.
use mathlib.Core.Path.{◌≡◌, refl, sym, ap, ◌∙◌, subst}
use mathlib.Core.Bool.{Bool, true, false, cond}
use mathlib.Core.List.{List, [], ◌∷◌, ◌++◌}
use Prim.Native.Nat.{ℕ, zero, suc, ◌+◌, ◌*◌, ◌/◌, ◌%◌, ◌≤◌, ◌<◌}
use native.Mathlib.Omega.{arith}
use lib.Dec.{eqb}
use lib.ListN.{length, drop, replicate, length-replicate}
use borrow.Author.Tests.{eqb-true}
use Rattle.order.specs.Trace.{core0, core1}
use Rattle.order.proofs.Chain.{Formed}
use Rattle.order.proofs.Trace.{and_true, cond_elim}
use Rattle.model.specs.Limits.{most_order_bits, report_bytes}
use Rattle.model.specs.File.{total, Entry, flat, schedule_of, bit, orders_of, Part, part_of}
use Rattle.model.specs.Codes.{Lawful}
use Rattle.model.specs.Marks.{race_found}
use Rattle.model.specs.Run.{Result, State, first_ring, machine_of, fresh_queue, fresh_of, names_one, shape_of, fresh}
use Rattle.model.specs.Report.{race_of, report_of, numbers_of, bytes_of}
use Rattle.model.specs.computed.Machine.{results}
use Rattle.model.proofs.Inverse.{reads_back}
use Rattle.model.proofs.Ranges.{multiple_above}
use Rattle.model.proofs.Laid.{lawful_code, lawful_ranges, lawful_laid}
use Rattle.model.proofs.OneRing.{all_of_one, race_from, race_of_all}
use Rattle.model.proofs.Some.{some_run}
use Rattle.model.proofs.One.{run_one}
use Rattle.model.proofs.Worked.{run_length}
use Rattle.promises.specs.Same.{back_syncs, front_syncs}
use Rattle.promises.specs.Call.{race_entry}
use Rattle.promises.specs.Written.{file_of}
use Rattle.promises.specs.Weak.{turns, producer, payload, back_part, back_turns, front_part, front_turns, Racing, EveryWeakerRaces}
use Rattle.promises.proofs.Turn.{entry, going, Racy}
use Rattle.promises.proofs.Course.{times, times_last, back_races, front_races}
use Rattle.promises.proofs.Written.{Whole, InRange, written_schedule, written_part, written_length, written_lawful}
use Rattle.promises.proofs.Bytes.{Bytes, bytes-at, bytes_replicate, bytes_turns, Small, file_bytes}

-- The racing entry is an entry of the run.
pub race_in : (n : ℕ) (xs : List Result) → race_from n xs ≤ n + length xs
race_in n [] = omega arith
race_in n (x ∷ xs) =
    let ih = race_in (suc n) xs in
    cond_elim (λ k. k ≤ n + suc (length xs)) (eqb x.mark race_found) n (race_from (suc n) xs) (λ e. omega arith) (λ e. omega arith)

-- It is told in the report.
race_told : (f : List ℕ) (xs : List Result) (z : State) (rest : List ℕ) → race_of first_ring xs < 4294967296
    → race_entry (bytes_of (numbers_of f xs z) ++ rest) ≡ race_of first_ring xs
unfolding report_of
race_told f xs z rest h = reads_back (numbers_of f xs z) rest 8 (omega arith) h

-- A ring and its schedule that can be written down.
pub record Writable (p : Part) (es : List Entry) : Type 0 where
  pub whole : Whole p
  pub in_range : InRange p
  pub short : length p.push_sizes + length p.pop_sizes + length p.push_bytes + 2 * length es ≤ 65000
  pub small : Small p
  pub entries_small : Bytes (flat es)

-- A file whose run races is one that races.
racing : (p : Part) (es : List Entry) → Writable p es → Racy (machine_of (λ q. p) names_one) (going (fresh_queue first_ring p) []) es
    → Racing p.size p.modulus p.bits (file_of p es)
racing p es w h = record {
  bytes = bytes-at (file_of p es) (file_bytes p es w.small w.entries_small);
  lawful = lawful;
  of_size = ap (λ (q : Part). q.size) part;
  of_modulus = ap (λ (q : Part). q.modulus) part;
  orders_are = ap (λ (q : Part). q.bits) part;
  races = λ marks out report r marks' out' report' a b c o.
      let code0 : r ≡ 0 = o.code_is ∙ lawful_code f (length marks) (length out) (length report) lawful (omega arith) (omega arith) (omega arith) in
      let ran = o.lawful code0 in
      let xs = results (shape_of f) (fresh f) (schedule_of f) in
      let ran_so = some_run (shape_of f) (fresh f) (schedule_of f) tt in
      let e = (run_one ran.run ran_so).0 in
      let k : ¬ (race_from 1 xs ≡ 0) = there tt 1 (omega arith) in
      let whole : race_of first_ring xs ≡ race_from 1 xs = race_of_all first_ring 1 xs (all_of_one f ran_so) in
      let l₁ = race_in 1 xs in
      let l₂ = run_length ran_so in
      let l₃ = (lawful_laid f lawful).entries in
      let l₄ = (lawful_ranges f lawful).bounded in
      let er : race_entry report' ≡ race_from 1 xs =
      ap race_entry ran.report_is
      ∙ race_told f ran.results ran.end (drop report_bytes report) (rw (e, whole) (omega arith))
      ∙ ap (race_of first_ring) e ∙ whole in
      (code0, λ z. k (sym er ∙ z));
}
  where
    f : List ℕ
    f = file_of p es

    part : part_of (file_of p es) ≡ p
    part = written_part p w.whole es

    lawful : Lawful (file_of p es)
    lawful = let l = written_length p w.whole es in let s = w.short in written_lawful p w.whole es w.in_range (omega arith)

    there : Formed [] → (n : ℕ) → 0 < n → ¬ (race_from n (results (shape_of (file_of p es)) (fresh (file_of p es)) (schedule_of (file_of p es))) ≡ 0)
    there a n l =
        subst (λ (es' : List Entry). ¬ (race_from n (results (shape_of (file_of p es)) (fresh (file_of p es)) es') ≡ 0)) (sym (written_schedule p w.whole es))
        (subst (λ (q : Part). ¬ (race_from n (results (machine_of (λ r. q) names_one) (fresh_of (λ r. q)) es) ≡ 0)) (sym part)
        (h (elim [ core0 ↦ refl | core1 ↦ refl ]) (fresh_of (λ q. p)).queue refl a n l))

odd_above : (n k : ℕ) → n % 2 ≡ 1 → 2 * k ≤ n → 2 * k < n
odd_above n k e h = omega arith

-- Of the settings below 15, one in which back synchronises has a front that does not.
pub front_open : (bits : ℕ) → bits < most_order_bits → back_syncs bits ≡ true → front_syncs bits ≡ false
front_open bits h e = go (front_syncs bits) refl
  where
    go : (x : Bool) → front_syncs bits ≡ x → front_syncs bits ≡ false
    go false k = k
    go true k =
        let u = and_true (bit bits 2) (bit bits 1) e in
        let v = and_true (bit bits 0) (bit bits 3) k in
        let b₀ = eqb-true (bits / 1 % 2) 1 v.0 in
        let b₁ = eqb-true (bits / 2 % 2) 1 u.1 in
        let b₂ = eqb-true (bits / 4 % 2) 1 u.0 in
        let b₃ = eqb-true (bits / 8 % 2) 1 v.1 in
        let c₃ : 8 ≤ bits = omega arith in
        let c₂ = odd_above (bits / 4) 1 b₂ (omega arith) in
        let c₁ = odd_above (bits / 2) 3 b₁ (omega arith) in
        let c₀ = odd_above (bits / 1) 7 b₀ (omega arith) in
        absurd (omega arith)

-- What races, as it can be written down.
module _ (m M bits : ℕ) (m1 : 1 ≤ m) (mh : m ≤ 128) (Ml : 2 ≤ M) (Mh : M ≤ 65536) (d : M % m ≡ 0) (mM : m < M) (b : bits < 15) where
  pub back_writable : Writable (back_part m M bits) back_turns
  unfolding total
  back_writable = record {
    whole = record { modulus_fits = omega arith; bytes_are = refl };
    in_range = record { some_slot = m1; slots = mh; modulus_low = Ml; modulus_high = Mh; divided = d; above = mM; orders = omega arith };
    short = omega arith;
    small = record {
      size_is = omega arith;
      bits_are = omega arith;
      few_pushes = omega arith;
      few_pops = omega arith;
      pushes_are = omega arith;
      pops_are = omega arith;
      bytes_are = omega arith;
    };
    entries_small = omega arith;
  }

  pub front_writable : Writable (front_part m M bits) (front_turns m)
  unfolding total
  front_writable =
      let l : length (replicate (suc m) payload) ≡ suc m = length-replicate (suc m) payload in
      let n : length (front_turns m) ≡ suc (suc m) + 7 = length_turns producer (suc (suc m)) _ in
      record {
        whole = record { modulus_fits = omega arith; bytes_are = omega arith };
        in_range = record { some_slot = m1; slots = mh; modulus_low = Ml; modulus_high = Mh; divided = d; above = mM; orders = omega arith };
        short = omega arith;
        small = record {
          size_is = omega arith;
          bits_are = omega arith;
          few_pushes = omega arith;
          few_pops = omega arith;
          pushes_are = omega arith;
          pops_are = omega arith;
          bytes_are = bytes_replicate (suc m) payload (omega arith);
        };
        entries_small = bytes_turns producer (suc (suc m)) _ (omega arith) (omega arith);
      }
    where
      length_turns : (core k : ℕ) (rest : List Entry) → length (turns core k rest) ≡ k + length rest
      length_turns core zero rest = omega arith
      length_turns core (suc k) rest = let ih = length_turns core k rest in omega arith

-- EVERY WEAKER SETTING RACES.
pub every_weaker_setting_races : EveryWeakerRaces
every_weaker_setting_races m M bits m1 mh Ml Mh d ne b = go (back_syncs bits) refl
  where
    mM : m < M
    mM = multiple_above m M m1 Ml d ne

    go : (y : Bool) → back_syncs bits ≡ y → Racing m M bits (file_of (cond y (front_part m M bits) (back_part m M bits)) (cond y (front_turns m) back_turns))
    go true e = racing (front_part m M bits) (front_turns m) (front_writable m M bits m1 mh Ml Mh d mM b) (
        subst (λ (es : List Entry). Racy (machine_of (λ q. front_part m M bits) names_one) (going (fresh_queue first_ring (front_part m M bits)) []) es)
        (ap (λ (es : List Entry). entry core0 ∷ es) (times_last core0 m (times core1 4 (times core0 3 []))))
        (front_races m M (orders_of (λ r. bits)) m1 mM (fresh_queue first_ring (front_part m M bits))
        (record { batches_are = refl; phase_is = refl; own_is = refl; cached_is = refl })
        (record { batches_are = refl; phase_is = refl; own_is = refl; cached_is = refl }) e (front_open bits b e)))
    go false e = racing (back_part m M bits) back_turns (back_writable m M bits m1 mh Ml Mh d mM b) (
        back_races m M (orders_of (λ r. bits)) m1 mM (fresh_queue first_ring (back_part m M bits))
        (record { batches_are = refl; phase_is = refl; own_is = refl; cached_is = refl })
        (record { batches_are = refl; phase_is = refl; own_is = refl; cached_is = refl }) e)

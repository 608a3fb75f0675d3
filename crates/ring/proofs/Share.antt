-- ONE RING'S SHARE of a run, be it the ring of a run file or one of two: its struct, its entries performed and its out. What an entry of the ring
-- and an entry of another make of it, and its numbers.
use mathlib.Core.Path.{◌≡◌, refl, ap, sym, ◌∙◌, subst}
use mathlib.Core.Bool.{Bool, true, false, cond}
use mathlib.Core.List.{List, [], ◌∷◌, ◌++◌, append-nil}
use Prim.Native.Nat.{ℕ, ◌+◌, ◌-◌, ◌<◌, ◌≤◌}
use native.Mathlib.Omega.{arith}
use lib.Dec.{eqb}
use lib.ListN.{get_or, set, length, drop, length-set}
use lib.Seq.{take-length}
use borrow.Author.Tests.{lt-leb, eq-eqb, ne_eqb}
use Rattle.order.specs.Trace.{Core, next}
use Rattle.order.proofs.Trace.{and_false, same_self}
use Rattle.model.specs.File.{total, Entry}
use Rattle.model.specs.Marks.{data_loaded, race_found, no_such_core}
use Rattle.model.specs.Run.{Result, refused, State, after, Runs, fresh_of}
use Rattle.model.specs.Report.{count, marked, entry_performed, entry_refused, of_ring, raced_at, race_of, occupancy, report_of}
use Rattle.model.proofs.Report.{performed_and_refused, loads_are_bytes, completed_bytes}
use Rattle.model.proofs.Rings.{run_turns}
use Rattle.model.proofs.Total.{total_small}
use Rattle.ring.specs.declared.state.Ring.{Ring}
use Rattle.std.specs.Prelude.{Option, Some, None}
use Rattle.ring.specs.Raced.{race_entry}
use Rattle.ring.specs.computed.Marks.{last_byte}
use Rattle.ring.specs.computed.State.{core_at}
use Rattle.ring.specs.computed.Run.{next_place, put_byte}
use Rattle.ring.specs.computed.Report.{occupancy_of, told_of, Countable}
use Rattle.ring.proofs.Site.{Site, part, shape, producer, consumer, seat, sizes_of, Fit, Local, here, onward, besides, after_here, after_there}
use Rattle.ring.proofs.Lists.{newest_is, newest_below}
use Rattle.ring.proofs.Rep.{Rep, modulus_pos, modulus_le, count_more, with_more, with_stays, length_more}
use Rattle.ring.proofs.Kept.{refused_kept}
use Rattle.ring.proofs.Join.{Joined}
use Rattle.ring.proofs.Data.{producer_seat, consumer_seat, consumer_pops}
use Rattle.ring.proofs.Step.{out_bound}
use Rattle.ring.proofs.Fresh.{fresh_at, fresh_rep}
use Rattle.ring.proofs.Buffers.{put_next}

-- One result more, of the ring or of another.

of_more : (r : ℕ) (xs : List Result) (x : Result) → of_ring r (xs ++ (x ∷ [])) ≡ of_ring r xs ++ cond (eqb x.ring r) (x ∷ []) []
of_more r [] x = refl
of_more r (y ∷ xs) x = go (eqb y.ring r) (of_more r xs x)
  where
    go : (b : Bool) → of_ring r (xs ++ (x ∷ [])) ≡ of_ring r xs ++ cond (eqb x.ring r) (x ∷ []) []
        → cond b (y ∷ of_ring r (xs ++ (x ∷ []))) (of_ring r (xs ++ (x ∷ []))) ≡ cond b (y ∷ of_ring r xs) (of_ring r xs) ++ cond (eqb x.ring r) (x ∷ []) []
    go true e = ap (λ (l : List Result). y ∷ l) e
    go false e = e

pub of_mine : (r : ℕ) (xs : List Result) (x : Result) → x.ring ≡ r → of_ring r (xs ++ (x ∷ [])) ≡ of_ring r xs ++ (x ∷ [])
of_mine r xs x e = of_more r xs x ∙ ap (λ (b : Bool). of_ring r xs ++ cond b (x ∷ []) []) (eq-eqb x.ring r e)

pub of_theirs : (r : ℕ) (xs : List Result) (x : Result) → ¬ (x.ring ≡ r) → of_ring r (xs ++ (x ∷ [])) ≡ of_ring r xs
of_theirs r xs x n = of_more r xs x ∙ ap (λ (b : Bool). of_ring r xs ++ cond b (x ∷ []) []) (ne_eqb x.ring r n) ∙ append-nil (of_ring r xs)

-- The racing entry: while nothing of the ring has raced, and for a result that is no race of the ring.
race_now : (r : ℕ) (xs : List Result) (x : Result) → x.ring ≡ r → race_of r xs ≡ 0 → race_of r (xs ++ (x ∷ [])) ≡ cond (marked race_found x) (1 + length xs) 0
race_now r xs x e calm = with_more (raced_at r) 1 xs x (omega arith) calm ∙ rw (eq-eqb x.ring r e)

race_not : (r : ℕ) (xs : List Result) (x : Result) → marked race_found x ≡ false → race_of r (xs ++ (x ∷ [])) ≡ race_of r xs
race_not r xs x e = with_stays (raced_at r) 1 xs x (rw e (and_false (eqb x.ring r)))

race_theirs : (r : ℕ) (xs : List Result) (x : Result) → ¬ (x.ring ≡ r) → race_of r (xs ++ (x ∷ [])) ≡ race_of r xs
race_theirs r xs x n = with_stays (raced_at r) 1 xs x (rw (ne_eqb x.ring r n))

entry_when : (b : Bool) (entry partner : ℕ) → race_entry (cond b (Some (record { entry = entry; partner = partner })) None) ≡ cond b entry 0
entry_when true entry partner = refl
entry_when false entry partner = refl

-- THE SHARE of the ring in a run that has come to state st with results xs. The place in out is k; out itself, where each byte has its own place,
-- holds the bytes read.
pub record Share (own : Type 0) (u : Site) (out₀ out : List ℕ) (s : Ring) (performed k : ℕ) (st : State) (xs : List Result) : Type 0 where
  pub rep : Rep u s (here st u.ring) (of_ring u.ring xs)
  pub race_is : race_entry s.race ≡ race_of u.ring xs
  pub out_same : length out ≡ length out₀
  pub out_is : own → out ≡ (st.queue u.ring).out ++ drop k out₀
  pub place_is : k ≡ length (st.queue u.ring).out
  pub performed_is : performed ≡ count entry_performed (of_ring u.ring xs)

-- Before the first entry.
pub share_none : {u : Site} → Fit u → (own : Type 0) (out : List ℕ) → Share own u out out (fresh_at u) 0 0 (fresh_of u.rings) []
share_none g own out = record {
  rep = fresh_rep g;
  race_is = refl;
  out_same = refl;
  out_is = λ _. refl;
  place_is = refl;
  performed_is = refl;
}

-- The pops of a ring have at most 65,025 bytes.
pops_few : {u : Site} → Fit u → total (part u).pop_sizes < 65536
pops_few {u} g =
    let popped_is : sizes_of u (consumer u) ≡ (part u).pop_sizes = ap (λ (b : Bool). cond b (part u).push_sizes (part u).pop_sizes) (consumer_pops u) in
    let all = ap total (take-length (part u).pop_sizes) in
    omega (
      arith,
      total_small (part u).pop_sizes (length (part u).pop_sizes) (λ j. subst (λ (l : List ℕ). get_or l j 0 < 256) popped_is (g.small (consumer u) j)),
      subst (λ (l : List ℕ). length l ≤ 255) popped_is (g.few (consumer u)),
    )

module _ {own : Type 0} {u : Site} {out₀ out : List ℕ} {s : Ring} {performed k : ℕ} {st : State} {xs : List Result} (z : Share own u out₀ out s performed k st xs) where
  put_length : (p : ℕ) (read : Option ℕ) → length (put_byte out p read) ≡ length out
  put_length p None = refl
  put_length p (Some byte) = length-set out p byte

  pub place_lt : Fit u → k < 65536
  place_lt g = omega (arith, z.place_is, out_bound z.rep, pops_few g)

  pub performed_le : performed ≤ length (of_ring u.ring xs)
  performed_le = omega (arith, performed_and_refused (of_ring u.ring xs), z.performed_is)

  -- AN ENTRY OF THE RING, performed: its byte goes into out, where it is a data load.
  module _ {s' : Ring} {x : Result} (j : Joined u s' (here st u.ring) (of_ring u.ring xs) x) where
    -- A data load's byte has a place.
    pub place_in : (byte : ℕ) → last_byte s'.last ≡ Some byte → k < total (part u).pop_sizes
    place_in byte e =
        let q' : x.queue.out ≡ (st.queue u.ring).out ++ (byte ∷ []) = j.out_is ∙ rw e refl in
        omega (arith, ap length q' ∙ length_more (st.queue u.ring).out byte, z.place_is, out_bound j.rep)

    queue_after : (after st x).queue u.ring ≡ x.queue
    queue_after = ap (λ (l : Local). l.queue) (after_here st x u.ring j.of-ring)

    written : (p : ℕ) → (own → p ≡ k) → (own → total (part u).pop_sizes ≤ length out₀) → (read : Option ℕ) → last_byte s'.last ≡ read
        → (own → put_byte out p read ≡ x.queue.out ++ drop (next_place k read) out₀)
        × (next_place k read ≡ length x.queue.out)
    written p same fit (Some byte) e =
        let q' : x.queue.out ≡ (st.queue u.ring).out ++ (byte ∷ []) = j.out_is ∙ rw e in
        let n = ap length q' ∙ length_more (st.queue u.ring).out byte in (
          λ o. ap (λ (l : List ℕ). set l p byte) (z.out_is o) ∙ ap (λ (i : ℕ). set ((st.queue u.ring).out ++ drop k out₀) i byte) (same o)
              ∙ put_next (st.queue u.ring).out out₀ k byte (sym z.place_is) (omega (arith, z.place_is, out_bound j.rep, fit o))
              ∙ ap (λ (l : List ℕ). l ++ drop (k + 1) out₀) (sym q'),
          sym (n ∙ omega (arith, z.place_is)),
        )
    written p same fit None e =
        let q' : x.queue.out ≡ (st.queue u.ring).out = j.out_is ∙ rw e (append-nil (st.queue u.ring).out) in
        (λ fits. z.out_is fits ∙ ap (λ (l : List ℕ). l ++ drop k out₀) (sym q'), z.place_is ∙ ap length (sym q'))

    -- The byte goes to place p.
    pub share_moved : (p : ℕ) → (own → p ≡ k) → (own → total (part u).pop_sizes ≤ length out₀) → length st.trace ≡ length xs
        → Share own u out₀ (put_byte out p (last_byte s'.last)) s' (performed + 1) (next_place k (last_byte s'.last)) (after st x) (xs ++ (x ∷ []))
    share_moved p same fit el =
        let mine = of_mine u.ring xs x j.of-ring in
        let w = written p same fit (last_byte s'.last) refl in
        let number : next st.trace ≡ 1 + length xs = omega (arith, el) in
        let calm : race_of u.ring xs ≡ 0 = sym z.race_is ∙ ap race_entry (z.rep.quiet j.running).0 in
        record {
          rep = subst (λ (l : Local). Rep u s' l (of_ring u.ring (xs ++ (x ∷ [])))) (sym (after_here st x u.ring j.of-ring))
              (subst (λ (l : List Result). Rep u s' (onward (here st u.ring) x) l) (sym mine) j.rep);
          race_is = ap race_entry j.race_is ∙ entry_when (marked race_found x) (next st.trace) x.partner ∙ ap (λ (n : ℕ). cond (marked race_found x) n 0) number ∙ sym (race_now u.ring xs x j.of-ring calm);
          out_same = put_length p (last_byte s'.last) ∙ z.out_same;
          out_is = λ fits. w.0 fits ∙ ap (λ (q : List ℕ). q ++ drop (next_place k (last_byte s'.last)) out₀) (sym (ap (λ q. q.out) queue_after));
          place_is = w.1 ∙ ap length (sym (ap (λ q. q.out) queue_after));
          performed_is = ap (λ (n : ℕ). n + 1) z.performed_is
              ∙ sym (ap (count entry_performed) mine ∙ count_more entry_performed (of_ring u.ring xs) x ∙ rw j.performs);
        }

  -- AN ENTRY OF THE RING, refused: nothing changes.
  pub share_refused : (n : ℕ) → no_such_core ≤ n
      → let x = refused u.ring (st.queue u.ring) n in Share own u out₀ out s performed k (after st x) (xs ++ (x ∷ []))
  share_refused n l =
      let x : Result = refused u.ring (st.queue u.ring) n in
      let mine = of_mine u.ring xs x refl in
      let here_is = after_here st x u.ring refl in
      let queue_is : (after st x).queue u.ring ≡ st.queue u.ring = ap (λ (w : Local). w.queue) here_is in
      let e7 : eqb n race_found ≡ false = ne_eqb n race_found (λ q. omega arith) in
      record {
        rep = subst (λ (w : Local). Rep u s w (of_ring u.ring (xs ++ (x ∷ [])))) (sym here_is)
            (subst (λ (w : List Result). Rep u s (onward (here st u.ring) x) w) (sym mine) (refused_kept z.rep n l));
        race_is = z.race_is ∙ sym (race_not u.ring xs x e7);
        out_same = z.out_same;
        out_is = λ fits. z.out_is fits ∙ ap (λ q. q.out ++ drop k out₀) (sym queue_is);
        place_is = z.place_is ∙ ap (λ q. length q.out) (sym queue_is);
        performed_is = z.performed_is ∙ sym (ap (count entry_performed) mine ∙ count_more entry_performed (of_ring u.ring xs) x ∙ rw (lt-leb n race_found (omega arith)) (omega arith));
      }

  -- AN ENTRY OF ANOTHER RING, after which this ring is represented by s': nothing else changes.
  -- A run over two rings keeps two shares by it; where a file has one ring nothing cites it.
  pub share_besides : (x : Result) → ¬ (x.ring ≡ u.ring) → {s' : Ring} → s'.race ≡ s.race → Rep u s' (besides (here st u.ring) x) (of_ring u.ring xs)
      → Share own u out₀ out s' performed k (after st x) (xs ++ (x ∷ []))
  share_besides x n {s'} er h =
      let theirs = of_theirs u.ring xs x n in
      let here_is = after_there st x u.ring n in
      let queue_is : (after st x).queue u.ring ≡ st.queue u.ring = ap (λ (w : Local). w.queue) here_is in
      record {
        rep = subst (λ (w : Local). Rep u s' w (of_ring u.ring (xs ++ (x ∷ [])))) (sym here_is)
            (subst (λ (w : List Result). Rep u s' (besides (here st u.ring) x) w) (sym theirs) h);
        race_is = ap race_entry er ∙ z.race_is ∙ sym (race_theirs u.ring xs x n);
        out_same = z.out_same;
        out_is = λ fits. z.out_is fits ∙ ap (λ q. q.out ++ drop k out₀) (sym queue_is);
        place_is = z.place_is ∙ ap (λ q. length q.out) (sym queue_is);
        performed_is = z.performed_is ∙ sym (ap (count entry_performed) theirs);
      }

  -- THE NUMBERS of the ring, of which n entries were tried.
  pub share_numbers : {es : List Entry} → Runs (shape u) (fresh_of u.rings) es xs st → (n : ℕ) → n ≡ length (of_ring u.ring xs)
      → told_of (record { ring = s; entries = n; performed = performed; loads = k }) ≡ report_of (shape u) u.ring (part u) xs st
  unfolding told_of report_of
  share_numbers run n en =
      let r = z.rep in
      let ys = of_ring u.ring xs in
      let refused_are : n - performed ≡ count entry_refused ys = omega (arith, performed_and_refused ys, z.performed_is) in
      let sized : (c : Core) → (core_at s (seat u c)).done ≡ _ = λ c. (r.core_is c).done_is ∙ completed_bytes u.rings u.names u.ring c run in
      let pushed_are = rw (producer_seat u, same_self (producer u)) at (sized (producer u)) in
      let popped_are = rw (consumer_seat u, consumer_pops u) at (sized (consumer u)) in
      let loads_are : k ≡ count (marked data_loaded) ys = z.place_is ∙ loads_are_bytes (run_turns u.ring run) ∙ omega arith in
      let b = rw (same_self (producer u)) at (newest_is (r.list_is (producer u))) in
      let c = rw (consumer_pops u) at (newest_is (r.list_is (consumer u))) in
      let left : occupancy_of s.back s.front s.modulus ≡ occupancy u.ring (part u).modulus st.trace = cc (b, c, r.modulus_is) in
      let f0 = rw (producer_seat u) at (r.failed_is (producer u)) in
      let f1 = rw (consumer_seat u) at (r.failed_is (consumer u)) in
      let l0 = rw (producer_seat u) at (r.largest_is (producer u)) in
      let l1 = rw (consumer_seat u) at (r.largest_is (consumer u)) in
      cc (z.performed_is, refused_are, pushed_are, popped_are, loads_are, left, f0, f1, z.race_is, r.partner_is, l0, l1)

  pub share_countable : Fit u → (n : ℕ) → n ≡ length (of_ring u.ring xs) → Countable (record { ring = s; entries = n; performed = performed; loads = k })
  share_countable g n en =
      let r = z.rep in
      record {
        performed_le = omega (arith, performed_le);
        loads_lt = place_lt g;
        reckonable = record {
          modulus_pos = modulus_pos g r;
          modulus_le = modulus_le g r;
          front_lt = rw r.modulus_is (rw (consumer_pops u) at (newest_below (r.list_is (consumer u))));
        };
      }

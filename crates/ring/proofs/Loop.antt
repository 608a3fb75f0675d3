-- The run of a run file: after i entries the ring has its share, and the buffers hold the marks and the bytes.
use mathlib.Core.Path.{◌≡◌, refl, ap, sym, ◌∙◌}
use mathlib.Core.Logic.{◌⊎◌, inl, inr}
use mathlib.Core.Bool.{Bool, true, false, cond, ◌||◌}
use mathlib.Core.List.{List, ◌++◌}
use Prim.Native.Nat.{ℕ, ◌+◌, ◌*◌, ◌<◌, ◌≤◌}
use native.Mathlib.Omega.{arith}
use lib.Dec.{eqb}
use lib.ListN.{get_or, set, length, take, drop}
use lib.Seq.{take_all}
use borrow.Author.Tests.{ne_eqb}
use Rattle.order.specs.Trace.{next}
use Rattle.order.proofs.Trace.{or_false}
use Rattle.model.specs.File.{byte_at, total, pop_sizes, schedule_at, schedule_of, Entry}
use Rattle.model.specs.Marks.{race_found, no_such_core}
use Rattle.model.specs.Run.{Result, refused, State, after, first_ring, shape_of, fresh}
use Rattle.model.specs.Report.{marked, of_ring}
use Rattle.model.specs.Outcome.{marks_of}
use Rattle.model.specs.computed.Machine.{step, results, ends}
use Rattle.model.proofs.OneRing.{of_one_ring}
use Rattle.model.proofs.Some.{some_run}
use Rattle.std.specs.Prelude.{Option, Some, None, is_some}
use Rattle.ring.specs.declared.race.DataRace.{DataRace}
use Rattle.ring.specs.Raced.{IsRace}
use Rattle.ring.specs.declared.state.Ring.{Ring}
use Rattle.ring.specs.declared.state.Ran.{Ran}
use Rattle.ring.specs.computed.Marks.{last_mark, last_byte}
use Rattle.ring.specs.computed.State.{fresh_of}
use Rattle.ring.specs.computed.Run.{next_place, put_byte, results_of, end_of, Finished}
use Rattle.ring.proofs.Site.{here}
use Rattle.ring.proofs.Parts.{site_of, Good}
use Rattle.ring.proofs.Join.{Joined}
use Rattle.ring.proofs.Entry.{answer, GoesOne, verdict}
use Rattle.ring.proofs.Prefix.{no_entry, Marked, marked_none, tried, next_results, next_end, marked_next}
use Rattle.ring.proofs.Share.{Share, share_none, share_moved, share_refused, share_numbers, share_countable}

-- The definition's results and state after i entries.
abbrev pub results_to : List ℕ → ℕ → List Result
results_to f i = results (shape_of f) (fresh f) (take i (schedule_of f))

abbrev pub end_to : List ℕ → ℕ → State
end_to f i = ends (shape_of f) (fresh f) (take i (schedule_of f))

abbrev pub entry_at : List ℕ → ℕ → Entry
entry_at f i = record { core = byte_at f (schedule_at f + 2 * i); age = byte_at f (schedule_at f + (2 * i + 1)) }

-- An entry by its two bytes.
pub both_bytes : (e : Entry) (a b : ℕ) → e.core ≡ a → e.age ≡ b → e ≡ record { core = a; age = b }
both_bytes e a b p q = λ k. record { core = p k; age = q k }

entry_is : {f : List ℕ} → Good f → (i : ℕ) → i < length (schedule_of f) → get_or (schedule_of f) i no_entry ≡ entry_at f i
entry_is {f} g i h =
    let z = g.laid.entry i no_entry h in
    both_bytes (get_or (schedule_of f) i no_entry) (byte_at f (schedule_at f + 2 * i)) (byte_at f (schedule_at f + (2 * i + 1))) z.0 z.1

-- The machine has halted where there is a racing entry.
pub halted_after : (st : State) (x : Result) (found : DataRace) (race : Option DataRace) → st.halted ≡ false → race ≡ cond (marked race_found x) (Some found) None
    → (after st x).halted ≡ is_some race
halted_after st x found race h e =
    ap (λ (b : Bool). b || eqb x.mark race_found) h ∙ halts (marked race_found x) ∙ sym (ap is_some e)
  where
    halts : (b : Bool) → b ≡ is_some (cond b (Some found) None)
    halts true = refl
    halts false = refl

-- The racing entry has a number.
race_when : (b : Bool) (entry partner : ℕ) → 0 < entry → IsRace (cond b (Some (record { entry = entry; partner = partner })) None)
race_when true entry partner h = h
race_when false entry partner h = tt

-- A refused entry halts nothing.
pub halted_still : (st : State) (x : Result) → marked race_found x ≡ false → (after st x).halted ≡ st.halted
halted_still st x e = ap (λ (b : Bool). st.halted || b) e ∙ or_false st.halted

-- After i entries: the ring's share, and the marks. They lie `each` apart, and have each its own place where that is 1.
pub record Going (f : List ℕ) (each : ℕ) (marks₀ out₀ marks out : List ℕ) (s : Ring) (performed k i : ℕ) : Type 0 where
  pub share : Share (each ≡ 1) (site_of f) out₀ out s performed k (end_to f i) (results_to f i)
  pub marked : Marked (each ≡ 1) (shape_of f) (fresh f) (schedule_of f) marks₀ marks i
  pub halted_is : (end_to f i).halted ≡ is_some s.race
  pub race_is : IsRace s.race

pub going_none : {f : List ℕ} → Good f → (each : ℕ) (marks out : List ℕ) → Going f each marks out marks out (fresh_of f) 0 0 0
going_none {f} g each marks out = record {
  share = share_none g.fit (each ≡ 1) out;
  marked = marked_none (shape_of f) (fresh f) (schedule_of f) (each ≡ 1) marks;
  halted_is = refl;
  race_is = tt;
}

-- A place of which the next lies `each` further, where that is 1.
pub own_place : (each i : ℕ) → each ≡ 1 → i * each ≡ i
own_place each i e = rw e (omega arith)

module _ {f : List ℕ} (g : Good f) {each : ℕ} {marks₀ out₀ marks out : List ℕ} {s : Ring} {performed k i : ℕ}
    (z : Going f each marks₀ out₀ marks out s performed k i) where
  -- Every entry counts for the one ring.
  pub all_mine : length (of_ring first_ring (results_to f i)) ≡ i
  all_mine = ap length (of_one_ring f (some_run (shape_of f) (fresh f) (take i (schedule_of f)) tt)) ∙ tried (shape_of f) (fresh f) (schedule_of f) i z.marked.inside

  module _ (fit : each ≡ 1 → length (schedule_of f) ≤ length marks₀) (fits : each ≡ 1 → total (pop_sizes f) ≤ length out₀)
      (more : i < length (schedule_of f)) where
    -- A REFUSED ENTRY writes its mark, and that is all.
    pub going_refused : (mark : ℕ) → mark ≡ answer f s (byte_at f (schedule_at f + 2 * i)) (byte_at f (schedule_at f + (2 * i + 1))) → ¬ (mark ≡ 0)
        → Going f each marks₀ out₀ (set marks (i * each) mark) out s performed k (i + 1)
    going_refused mark e h = go (verdict g z.share.rep z.halted_is (byte_at f (schedule_at f + 2 * i)) (byte_at f (schedule_at f + (2 * i + 1))))
      where
        go : ((step (shape_of f) (end_to f i) (entry_at f i) ≡ refused first_ring ((end_to f i).queue first_ring) (answer f s (byte_at f (schedule_at f + 2 * i)) (byte_at f (schedule_at f + (2 * i + 1)))))
            × (no_such_core ≤ answer f s (byte_at f (schedule_at f + 2 * i)) (byte_at f (schedule_at f + (2 * i + 1)))))
            ⊎ (GoesOne f s (end_to f i) (byte_at f (schedule_at f + 2 * i)) (byte_at f (schedule_at f + (2 * i + 1)))
            × (answer f s (byte_at f (schedule_at f + 2 * i)) (byte_at f (schedule_at f + (2 * i + 1))) ≡ 0))
            → Going f each marks₀ out₀ (set marks (i * each) mark) out s performed k (i + 1)
        go (inr w) = absurd (h (e ∙ w.1))
        go (inl w) =
            let x : Result = refused first_ring ((end_to f i).queue first_ring) mark in
            let is = ap (step (shape_of f) (end_to f i)) (entry_is g i more) ∙ w.0 ∙ ap (refused first_ring ((end_to f i).queue first_ring)) (sym e) in
            let l : no_such_core ≤ mark = omega (arith, w.1, e) in
            let er = next_results (shape_of f) (fresh f) (schedule_of f) i more x is in
            let ee = next_end (shape_of f) (fresh f) (schedule_of f) i more x is in
            record {
              share = rw (er, ee) (share_refused z.share mark l);
              marked = marked_next (shape_of f) (fresh f) (schedule_of f) i more x is (i * each) (own_place each i) fit z.marked;
              halted_is = rw ee (halted_still (end_to f i) x (ne_eqb mark race_found (λ q. omega arith)) ∙ z.halted_is);
              race_is = z.race_is;
            }

    -- A PERFORMED ENTRY writes its mark and, where it is a data load, one byte.
    pub going_moved : {s' : Ring}
        → Joined (site_of f) s' (here (end_to f i) first_ring) (of_ring first_ring (results_to f i)) (step (shape_of f) (end_to f i) (entry_at f i))
        → Going f each marks₀ out₀ (set marks (i * each) (last_mark s'.last)) (put_byte out (k * each) (last_byte s'.last)) s' (performed + 1) (next_place k (last_byte s'.last)) (i + 1)
    going_moved {s'} j =
        let x : Result = step (shape_of f) (end_to f i) (entry_at f i) in
        let is = ap (step (shape_of f) (end_to f i)) (entry_is g i more) in
        let er = next_results (shape_of f) (fresh f) (schedule_of f) i more x is in
        let ee = next_end (shape_of f) (fresh f) (schedule_of f) i more x is in
        record {
          share = rw (er, ee) (share_moved z.share j (k * each) (own_place each k) fits (omega (arith, z.marked.entries_are, tried (shape_of f) (fresh f) (schedule_of f) i z.marked.inside)));
          marked = rw j.mark_is (marked_next (shape_of f) (fresh f) (schedule_of f) i more x is (i * each) (own_place each i) fit z.marked);
          halted_is = rw ee (halted_after (end_to f i) x _ s'.race j.running j.race_is);
          race_is = rw j.race_is (race_when (marked race_found x) (next (end_to f i).trace) x.partner (omega arith));
        }

-- THE END of the run: every entry was tried.
pub finished : {f : List ℕ} → Good f → {each : ℕ} {marks₀ out₀ marks out : List ℕ} {s : Ring} {performed k i : ℕ} → Going f each marks₀ out₀ marks out s performed k i
    → length (schedule_of f) ≤ i → (n : ℕ) → n ≡ length (schedule_of f) → (r : Ran) → r ≡ record { ring = s; entries = n; performed = performed; loads = k }
    → Finished f each marks₀ out₀ r marks out
finished {f} g {each} {marks₀} {out₀} {marks} {out} {s} {performed} {k} {i} z past n en r er =
    let ei : i ≡ n = omega (arith, z.marked.inside) in
    let all : take i (schedule_of f) ≡ schedule_of f = take_all i (schedule_of f) past in
    let eR : results_to f i ≡ results_of f = ap (results (shape_of f) (fresh f)) all in
    let eE : end_to f i ≡ end_of f = ap (ends (shape_of f) (fresh f)) all in
    let mine : n ≡ length (of_ring first_ring (results_to f i)) = sym ei ∙ sym (all_mine g z) in
    rw er (record {
      marks_are = λ fit. rw (← eR) (z.marked.marks_are fit ∙ ap (λ (j : ℕ). marks_of (results_to f i) ++ drop j marks₀) (ei ∙ en));
      out_is = λ fits. rw (← eE, ← z.share.place_is) (z.share.out_is fits);
      numbers_are = rw (← eR, ← eE) (share_numbers z.share (some_run (shape_of f) (fresh f) (take i (schedule_of f)) tt) n mine);
      countable = share_countable z.share g.fit n mine;
      race_is = z.race_is;
    })

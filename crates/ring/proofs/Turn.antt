-- The loop's invariant, and what each way through the loop's body makes of it.
use mathlib.Core.Path.{◌≡◌, refl, ap, sym, ◌∙◌}
use mathlib.Core.List.{List}
use mathlib.Core.Logic.{◌⊎◌, inl, inr}
use Prim.Native.Nat.{ℕ, ◌+◌, ◌*◌, ◌-◌, ◌/◌, ◌<◌, ◌≤◌}
use native.Mathlib.Omega.{arith}
use lib.ListN.{get_or, set, length}
use Rattle.order.specs.Trace.{next}
use Rattle.order.proofs.Trace.{clash}
use Rattle.model.specs.File.{byte_at, total, pop_sizes, schedule_at, schedule_of}
use Rattle.model.specs.Run.{refused, first_ring, shape_of}
use Rattle.model.specs.Report.{of_ring}
use Rattle.model.specs.computed.Machine.{step}
use Rattle.std.specs.Prelude.{Option, Some, None, IsSome}
use Rattle.ring.specs.declared.marks.Refusal.{Refusal}
use Rattle.ring.specs.declared.marks.Refusal.TheVariants.{NoSuchCore, Halted, NoBatchLeft, NoAgeHere, PastInitial, StoreHidden}
use Rattle.ring.specs.declared.who.Who.{Who}
use Rattle.ring.specs.declared.state.Ring.{Ring}
use Rattle.ring.specs.declared.state.Ran.{Ran}
use Rattle.ring.specs.computed.State.{fresh_of, core_at, Bounded}
use Rattle.ring.specs.computed.Reads.{size_at, byte_for}
use Rattle.ring.specs.computed.Moves.{own_load, foreign_load, data_access, index_store}
use Rattle.ring.specs.computed.Who.{who_of, core_place, chosen}
use Rattle.ring.specs.computed.Marks.{last_mark, last_byte, refusal_mark}
use Rattle.ring.specs.computed.Run.{next_place, put_byte, Ready, Finished}
use Rattle.ring.proofs.Buffers.{all_placed}
use Rattle.ring.proofs.Whole.{entries_are}
use Rattle.ring.proofs.Parts.{site_of, Good, good}
use Rattle.ring.proofs.Join.{Joined}
use Rattle.ring.proofs.Site.{here}
use Rattle.ring.proofs.Entry.{answer, GoesOne, verdict, own_arm, foreign_arm, data_arm, index_arm, bounds, age_lt, moved_lt, count_lt}
use Rattle.ring.proofs.Loop.{results_to, end_to, entry_at, Going, going_none, all_mine, going_refused, going_moved, finished}
use Rattle.ring.proofs.Share.{performed_le}
use Rattle.ring.proofs.Share as share

-- THE LOOP'S INVARIANT: a lawful file of bytes, a place for each mark and each byte read, and the run so far.
pub record Turning (f : List ℕ) (at n each : ℕ) (marks₀ out₀ marks out : List ℕ) (s : Ring) (performed k i : ℕ) : Type 0 where
  pub fine : Good f
  pub at_is : at ≡ schedule_at f
  pub n_is : n ≡ length (schedule_of f)
  pub ready : Ready f each (length marks₀) (length out₀)
  pub going : Going f each marks₀ out₀ marks out s performed k i

-- A refusal's mark is not 0.
pub never_zero : (refused : Refusal) → ¬ (refusal_mark refused ≡ 0)
never_zero NoSuchCore q = omega arith
never_zero Halted q = omega arith
never_zero NoBatchLeft q = omega arith
never_zero NoAgeHere q = omega arith
never_zero PastInitial q = omega arith
never_zero StoreHidden q = omega arith

-- Before the first entry.
pub turning_none : {f : List ℕ} {at n each : ℕ} {marks out : List ℕ} → ((k : ℕ) → byte_at f k < 256) → Ready f each (length marks) (length out)
    → at ≡ schedule_at f → n ≡ (length f - at) / 2 → {s : Ring} → s ≡ fresh_of f → Turning f at n each marks out marks out s 0 0 0
turning_none {f} {at} {n} {each} {marks} {out} bytes ready ea en e =
    let g = good f ready.lawful bytes in
    record { fine = g; at_is = ea; n_is = entries_are f at n ready.lawful ea en; ready = ready; going = rw e (going_none g each marks out) }

-- One entry: its two bytes.
module _ {f : List ℕ} {at n each : ℕ} {marks₀ out₀ marks out : List ℕ} {s : Ring} {performed k i : ℕ} (z : Turning f at n each marks₀ out₀ marks out s performed k i)
    (more : i < n) where
  abbrev core : ℕ
  core = get_or f (at + 2 * i) 0

  abbrev age : ℕ
  age = get_or f (at + 2 * i + 1) 0

  left : i < length (schedule_of f)
  left = omega (arith, z.n_is)

  fit : each ≡ 1 → length (schedule_of f) ≤ length marks₀
  fit e = all_placed each (length (schedule_of f)) (length marks₀) z.ready.marks_fit e

  fits : each ≡ 1 → total (pop_sizes f) ≤ length out₀
  fits = all_placed each (total (pop_sizes f)) (length out₀) z.ready.out_fits

  the_core : core ≡ byte_at f (schedule_at f + 2 * i)
  the_core = ap (λ (j : ℕ). get_or f (j + 2 * i) 0) z.at_is

  the_age : age ≡ byte_at f (schedule_at f + (2 * i + 1))
  the_age =
      let e : at + 2 * i + 1 ≡ schedule_at f + (2 * i + 1) = omega (arith, z.at_is) in
      ap (λ (j : ℕ). get_or f j 0) e

  -- It is refused: the code's answer is not 0, and is written as its mark.
  pub refused_turns : {v : ℕ} {marks' : List ℕ} → marks' ≡ set marks (i * each) v → v ≡ answer f s core age → ¬ (v ≡ 0)
      → Turning f at n each marks₀ out₀ marks' out s performed k (i + 1)
  refused_turns {v} em ev some = record {
    fine = z.fine;
    at_is = z.at_is;
    n_is = z.n_is;
    ready = z.ready;
    going = rw em (going_refused z.fine z.going fit fits left v (ev ∙ rw (the_core, the_age) refl) some);
  }

  -- The entry's number.
  number_is : next (end_to f i).trace ≡ i + 1
  number_is = omega (arith, z.going.marked.entries_are)

  -- The move that was made joins the definition's step.
  abbrev pub Joins : Ring → Type 0
  Joins s' = Joined (site_of f) s' (here (end_to f i) first_ring) (of_ring first_ring (results_to f i)) (step (shape_of f) (end_to f i) (record { core = core; age = age }))

  -- It goes: the code's answer is 0.
  abbrev pub Goes : Type 0
  Goes = 0 ≡ answer f s core age

  -- What the moves then ask of core w, and that the move made joins, for each phase.
  module _ (goes : Goes) {w : Who} (ew : w ≡ who_of core) {p : ℕ} (ep : p ≡ core_place w) where
    on : GoesOne f s (end_to f i) core age
    on = go (verdict z.fine z.going.share.rep z.going.halted_is core age)
      where
        go : ((step (shape_of f) (end_to f i) (record { core = core; age = age }) ≡ refused first_ring ((end_to f i).queue first_ring) (answer f s core age)) × (129 ≤ answer f s core age))
            ⊎ (GoesOne f s (end_to f i) core age × (answer f s core age ≡ 0)) → GoesOne f s (end_to f i) core age
        go (inr x) = x.0
        go (inl x) = absurd (omega (arith, goes, x.1))

    pub bounded : Bounded (core_at s (core_place w))
    bounded = bounds z.fine z.going.share.rep core age on w ew

    pub has_age : (core_at s p).phase ≡ 1 → age < (chosen w s.front s.back).count
    has_age one = age_lt z.fine z.going.share.rep core age on w ew (rw ep at one)

    pub has_byte : (core_at s p).phase ≡ 2 → (core_at s (core_place w)).moved < 255
    has_byte two = moved_lt z.fine z.going.share.rep core age on w ew (rw ep at two)

    pub has_place : (chosen w s.back s.front).count < 256
    has_place = count_lt z.fine z.going.share.rep core age on w ew

    pub own_joins : (core_at s p).phase ≡ 0 → {size : ℕ} → size ≡ size_at f w (core_at s p).batch → {s' : Ring} → s' ≡ own_load s w size → Joins s'
    own_joins q es e = rw (e, es, ep) (own_arm z.fine z.going.share.rep core age on w ew (rw ep at q))

    pub foreign_joins : (core_at s p).phase ≡ 1 → {s' : Ring} → s' ≡ foreign_load s w age → Joins s'
    foreign_joins q e = rw e (foreign_arm z.fine z.going.share.rep core age on w ew (rw ep at q))

    pub data_joins : (core_at s p).phase ≡ 2 → {byte : ℕ} → byte ≡ byte_for f w (core_at s p).passed (core_at s p).moved
        → {s' : Ring} → s' ≡ data_access s w byte (i + 1) → Joins s'
    data_joins q eb e = rw (e, eb, ep, ← number_is) (data_arm z.fine z.going.share.rep core age on w ew (rw ep at q))

    pub index_joins : ¬ ((core_at s p).phase ≡ 0) → ¬ ((core_at s p).phase ≡ 1) → ¬ ((core_at s p).phase ≡ 2)
        → {s' : Ring} → ((room : (chosen w s.back s.front).count < 256) → s' ≡ index_store s w (i + 1) room) → Joins s'
    index_joins a b d e = rw (e has_place, ← number_is)
        (index_arm z.fine z.going.share.rep core age on w ew (λ q. a (rw ep q)) (λ q. b (rw ep q)) (λ q. d (rw ep q)) has_place)

  module _ {s' : Ring} (j : Joins s') where
    joined_here : Joined (site_of f) s' (here (end_to f i) first_ring) (of_ring first_ring (results_to f i)) (step (shape_of f) (end_to f i) (entry_at f i))
    joined_here = rw (the_core, the_age) at j

    -- A byte that it read has its place.
    pub place_here : {read : Option ℕ} → read ≡ last_byte s'.last → IsSome read → k * each < length out
    place_here {read = None} e some = clash (cc)
    place_here {read = Some byte} e some = omega (arith, z.ready.out_fits k (share.place_in z.going.share joined_here byte (sym e)), z.going.share.out_same)

    -- Its mark and its byte are written.
    pub moved_turns : {mark : ℕ} {read : Option ℕ} {out' : List ℕ} {k' : ℕ} → mark ≡ last_mark s'.last → read ≡ last_byte s'.last
        → k' ≡ next_place k read → out' ≡ put_byte out (k * each) read → Turning f at n each marks₀ out₀ (set marks (i * each) mark) out' s' (performed + 1) k' (i + 1)
    moved_turns em er ek eo = record {
      fine = z.fine;
      at_is = z.at_is;
      n_is = z.n_is;
      ready = z.ready;
      going = rw (eo, ek, er, em) (going_moved z.fine z.going fit fits left joined_here);
    }

after_header : (f : List ℕ) → 8 ≤ schedule_at f
unfolding schedule_at
after_header f = omega arith

-- Places and counts fit their types, and there are no more entries performed than tried.
module _ {f : List ℕ} {at n each : ℕ} {marks₀ out₀ marks out : List ℕ} {s : Ring} {performed k i : ℕ} (z : Turning f at n each marks₀ out₀ marks out s performed k i) where
  -- At most 32,764 entries.
  pub few_entries : n ≤ 32764
  few_entries = omega (arith, z.n_is, z.fine.laid.entries, z.fine.ranges.bounded, z.fine.ranges.header, after_header f)

  -- The place in out is at most the sum of the pop sizes.
  pub place_lt : k < 65536
  place_lt = share.place_lt z.going.share z.fine.fit

  pub few_performed : performed ≤ i
  few_performed = omega (arith, performed_le z.going.share, all_mine z.fine z.going)

  pub all_turned : n ≤ i → (r : Ran) → r ≡ record { ring = s; entries = n; performed = performed; loads = k } → Finished f each marks₀ out₀ r marks out
  all_turned past r e = finished z.fine z.going (omega (arith, z.n_is)) n z.n_is r e

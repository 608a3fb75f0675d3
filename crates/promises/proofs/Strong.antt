-- The invariant over a whole run, for all settings; and what it says where the orders are strong.
use mathlib.Core.Path.{◌≡◌, refl, sym, ap, ◌∙◌, subst}
use mathlib.Core.Logic.{inl}
use mathlib.Core.Bool.{Bool, true, false, cond}
use mathlib.Core.List.{List, [], ◌∷◌, ◌++◌}
use Prim.Native.Nat.{ℕ, ◌+◌, ◌-◌, ◌*◌, ◌/◌, ◌%◌, ◌≤◌, ◌<◌}
use native.Mathlib.Omega.{arith}
use native.Mathlib.Nat.{add-zero, div-add-mod, zero-mod}
use lib.ListN.{length, take, replicate, length-replicate}
use lib.Seq.{take-append-le, take-append_seam, take-take}
use lib.Dec.{eqb}
use borrow.Author.Tests.{eqb-false, ne_eqb}
use Rattle.order.specs.Trace.{Core, core0, other, Ring, index, Act, Trace, stores_to}
use Rattle.order.proofs.Trace.{clash, or_none, same_self}
use Rattle.order.proofs.Chain.{Fits}
use Rattle.model.specs.File.{Entry, total, ring_size, modulus_of, bit, Part, part_of}
use Rattle.model.specs.Codes.{Lawful}
use Rattle.model.specs.Marks.{race_found, no_such_core, is_halted}
use Rattle.model.specs.Queue.{Named, nobody, named, Shape, Queue, pusher, pushes}
use Rattle.model.specs.Run.{Result, refused, State, after, first_ring, names_one, Entered, Step, Runs, stop, move, machine_of, fresh_side, fresh_of}
use Rattle.model.specs.Report.{occupancy, of_ring}
use Rattle.model.proofs.Plan.{planned}
use Rattle.model.proofs.Rings.{with_either, ActIn, ring_of, step-at, stores_not}
use Rattle.model.proofs.OneRing.{of_one_ring}
use Rattle.model.proofs.Formed.{step_fits}
use Rattle.model.proofs.Laid.{lawful_ranges, lawful_laid}
use Rattle.model.proofs.Halted.{halts_at_races, halted_stays}
use Rattle.model.proofs.Slots.{held, held_kept}
use Rattle.model.proofs.Report.{completed_bytes}
use Rattle.promises.specs.Flows.{pushed, popped, pushed_bytes, popped_bytes, Flows, AlwaysFlows}
use Rattle.promises.specs.Strong.{all_strong, NeverRaced, Calm, StrongKeeps}
use Rattle.promises.proofs.Wrap.{room_is}
use Rattle.promises.proofs.Count.{made, counts_not}
use Rattle.promises.proofs.Log.{Strong, Quiet}
use Rattle.promises.proofs.Half.{Sizes, Half, half_quiet, pusher as leader, popper as follower, leads_of, seen_of_yours, seen_of_mine}
use Rattle.promises.proofs.Flow.{Flow}
use Rattle.promises.proofs.Invariant.{Invariant, flow_quiet}
use Rattle.promises.proofs.Moves.{goes, refused_keeps}
use Rattle.promises.proofs.Pushed.{not_same, completed_pushes}

-- An entry of another ring keeps this ring's invariant.

away_quiet : (r p : Ring) (a : Act) (c : Core) → ActIn p a → ¬ (p ≡ r) → Quiet c r a
away_quiet r p a c h n = (counts_not r p a c h n, stores_not p r (index r c) a h refl n)

away_keeps : (g : Shape) (r p : Ring) (t : Trace) (q : Queue) (a : Act) → Fits t a → ActIn p a → ¬ (p ≡ r) → Invariant g r t q → Invariant g r (a ∷ t) q
away_keeps g r p t q a fits h n I = record {
  formed = (fits, I.formed);
  half = λ c. half_quiet g a t c r (q.side c) (away_quiet r p a c h n) (I.half c);
  flow = flow_quiet g r t a q q (λ c. counts_not r p a c h n) refl refl (λ c. refl) I.flow;
}

-- One entry

-- Every ring's invariant.
abbrev pub All : Shape → Trace → (Ring → Queue) → Type 0
All g t q = (r : Ring) → Invariant g r t (q r)

-- An entry of ring r keeps its invariant unless it races, and with this ring's orders strong it does not.
abbrev GoesOn : Shape → Ring → Trace → Result → Type 0
GoesOn g r t x = (¬ (x.mark ≡ race_found) → Invariant g r (x.did ∷ t) x.queue) × (Strong g r → ¬ (x.mark ≡ race_found))

refuses : (g : Shape) (r : Ring) (l : Sizes g r) (t : Trace) (q : Queue) (I : Invariant g r t q) (x : Result) (n : ℕ) → ¬ (n ≡ race_found)
    → x ≡ refused r q n → GoesOn g r t x
refuses g r l t q I x n h d = rw d (λ k. refused_keeps g r l t q I core0, λ st. h)

entered_goes : (g : Shape) (l : (r : Ring) → Sizes g r) (s : State) (I : All g s.trace s.queue) (age : ℕ) (c : Named) (h : Bool) (x : Result)
    → Entered g s age c h x → GoesOn g (ring_of c) s.trace x
entered_goes g l s I age nobody h x d = refuses g 0 (l 0) s.trace (s.queue 0) (I 0) x no_such_core (λ e. clash (omega arith)) d
entered_goes g l s I age (named r c) true x d = refuses g r (l r) s.trace (s.queue r) (I r) x is_halted (λ e. clash (omega arith)) d
entered_goes g l s I age (named r c) false x d =
    let z = goes g r (l r) s.trace (s.queue r) (I r) c (planned g r c (s.queue r) s.trace age) x d in (z.keeps, z.calm)

-- While the machine has not halted, every ring's invariant holds.
abbrev pub Live : Shape → State → Type 0
Live g s = s.halted ≡ false → All g s.trace s.queue

step_live : (g : Shape) (l : (r : Ring) → Sizes g r) (s : State) (e : Entry) (x : Result) → Step g s e x → Live g s → Live g (after s x)
step_live g l s e x d I h r =
    let k = or_none s.halted (eqb x.mark race_found) h in
    let a = step-at g s e x d in
    let p : Ring = ring_of (g.names e.core) in
    let z = (entered_goes g l s (I k.0) e.age (g.names e.core) s.halted x d).0 (eqb-false x.mark race_found k.1) in
    with_either (Invariant g r (x.did ∷ s.trace)) s.queue x.ring x.queue r
    (λ y. subst (λ (b : Ring). Invariant g b (x.did ∷ s.trace) x.queue) (sym a.0 ∙ y) z)
    (λ y. away_keeps g r p s.trace (s.queue r) x.did (step_fits g s e x d) a.1 (λ u. y (a.0 ∙ u)) (I k.0 r))

-- THE INVARIANT OF A RUN, of any rings and for all settings: it holds until the machine halts.
pub run_live : {g : Shape} {s z : State} {es : List Entry} {xs : List Result} → ((r : Ring) → Sizes g r) → Live g s → Runs g s es xs z → Live g z
run_live l I stop = I
run_live {g} l I (move {s = s} {e = e} {x = x} a p) = run_live l (step_live g l s e x a I) p

-- With strong orders it never halts, and no entry gets the mark of a race.
pub run_strong : {g : Shape} {s z : State} {es : List Entry} {xs : List Result} → ((r : Ring) → Sizes g r) → ((r : Ring) → Strong g r) → Live g s
    → s.halted ≡ false → Runs g s es xs z → (z.halted ≡ false) × NeverRaced xs
run_strong l st I h stop = (h, tt)
run_strong {g} l st I h (move {s = s} {e = e} {x = x} a p) =
    let n = (entered_goes g l s (I h) e.age (g.names e.core) s.halted x a).1 (st (ring_of (g.names e.core))) in
    let k = run_strong l st (step_live g l s e x a I) (rw (h, ne_eqb x.mark race_found n)) p in
    (k.0, (n, k.1))

-- UP TO A HALT AND AFTER IT. A racing access leaves the queue and both indexes as they were, and after it nothing moves: what the invariant said of the
-- trace before it still holds of the queue.
pub record Steady (g : Shape) (r : Ring) (s : State) : Type 0 where
  pub till : Trace
  pub kept : Invariant g r till (s.queue r)
  pub same : (c : Core) → held s.trace (index r c) ≡ held till (index r c)

pub live_steady : (g : Shape) (s : State) → All g s.trace s.queue → (r : Ring) → Steady g r s
live_steady g s I r = record { till = s.trace; kept = I r; same = λ c. refl }

step_steady : (g : Shape) (l : (r : Ring) → Sizes g r) (s : State) (e : Entry) (x : Result) → Step g s e x → Live g s → ((r : Ring) → Steady g r s)
    → (r : Ring) → Steady g r (after s x)
step_steady g l s e x d I h r = go (after s x).halted refl
  where
    stays : ((p : Ring) → (after s x).queue p ≡ s.queue p) → ((p : Ring) (c : Core) → stores_to (index p c) x.did ≡ false) → Steady g r (after s x)
    stays eq ns = record {
      till = (h r).till;
      kept = rw (eq r) (h r).kept;
      same = λ c. held_kept x.did s.trace (index r c) (ns r c) ∙ (h r).same c;
    }

    go : (b : Bool) → (after s x).halted ≡ b → Steady g r (after s x)
    go false k = live_steady g (after s x) (step_live g l s e x d I k) r
    go true k = let z = halted_stays g s e x d k in stays z.0 z.1

pub run_steady : {g : Shape} {s z : State} {es : List Entry} {xs : List Result} → ((r : Ring) → Sizes g r) → Live g s → ((r : Ring) → Steady g r s)
    → Runs g s es xs z → (r : Ring) → Steady g r z
run_steady l I h stop = h
run_steady {g} l I h (move {s = s} {e = e} {x = x} a p) = run_steady l (step_live g l s e x a I) (step_steady g l s e x a I h) p

-- What is asked of what a file says of a ring.
pub record Fair (p : Part) : Type 0 where
  pub some_slot : 0 < p.size
  pub laps : ℕ
  pub divides : p.modulus ≡ laps * p.size
  pub larger : p.size < p.modulus
  pub enough : total p.push_sizes ≤ length p.push_bytes

module _ (p : Ring → Part) (names : ℕ → Named) where
  pub fair_sizes : ((r : Ring) → Fair (p r)) → (r : Ring) → Sizes (machine_of p names) r
  fair_sizes h r = record { some_slot = (h r).some_slot; laps = (h r).laps; divides = (h r).divides; larger = (h r).larger }

  -- The fresh machine

  fresh_half : (r : Ring) (c : Core) (b : List ℕ) → Half (machine_of p names) [] c r (fresh_side b)
  fresh_half r c b = record {
    seen_k = 0;
    log = record { published = λ s e. clash (cc); slotted = λ j y e. clash (cc) };
    seen = record { from = 0; is-store = inl refl; read = omega arith; known = λ st. omega arith; count = refl; value = sym (zero-mod (p r).modulus) };
    newest = sym (zero-mod (p r).modulus);
    own_is = tt;
    moved_is = refl;
    counted = omega arith;
    within = omega arith;
    fits = omega arith;
  }

  fresh_flow : (r : Ring) → Flow (p r).size 0 0 (replicate (p r).size 0) [] []
  fresh_flow r = record { room = length-replicate (p r).size 0; sent_length = refl; behind = omega arith; out_is = refl; stands = λ a p q. absurd (omega arith) }

  pub fresh_all : All (machine_of p names) [] (fresh_of p).queue
  fresh_all r = record {
    formed = tt;
    half = λ c. fresh_half r c (cond (pushes r c) (p r).push_sizes (p r).pop_sizes);
    flow = λ c e. (fresh_flow r, refl);
  }

  -- Where all orders of a ring are strong.
  pub strong_orders : (r : Ring) → (p r).bits ≡ all_strong → Strong (machine_of p names) r
  strong_orders r e = record {
    acquire = λ c. rw e (go (pushes r c));
    release = λ c. rw e (go' (pushes r c));
  }
    where
      go : (b : Bool) → cond b (bit 15 0) (bit 15 2) ≡ true
      go true = refl
      go false = refl

      go' : (b : Bool) → cond b (bit 15 1) (bit 15 3) ≡ true
      go' true = refl
      go' false = refl

-- What the invariant says

module _ (g : Shape) (r : Ring) (l : Sizes g r) (s : State) (h : Steady g r s) where
  abbrev I : Invariant g r h.till (s.queue r)
  I = h.kept

  abbrev ins : ℕ
  ins = length (pushed_bytes r s)

  abbrev outs : ℕ
  outs = length (popped_bytes r s)

  abbrev M : ℕ
  M = g.modulus r

  bounds : (outs ≤ ins) × (ins ≤ outs + g.size r)
  bounds =
      let c = pusher r in
      let d = other (pusher r) in
      let a = (I.half c).fits in let b = (I.half d).fits in
      let p = seen_of_yours g r l h.till c ((s.queue r).side c) ((s.queue r).side d) (I.half c) (I.half d) in
      let q = seen_of_mine g r l h.till c ((s.queue r).side c) ((s.queue r).side d) (I.half c) (I.half d) in
      elim (leads_of g r c) [ leader u v w x ↦ (omega arith, omega arith) | follower u v w x ↦ clash (cc (same_self c)) ]

  -- The occupancy is the bytes in the ring.
  pub occupied : occupancy r M s.trace ≡ ins - outs
  occupied =
      let b = bounds in let larger = l.larger in
      let k = room_is M 0 ins outs (omega arith) (omega arith) (omega arith) in
      let z : (ins % M + (M - outs % M)) % M ≡ ins - outs = rw (add-zero (ins % M), add-zero ins) at k in
      rw (h.same (pusher r) ∙ (I.half (pusher r)).newest, h.same (other (pusher r)) ∙ (I.half (other (pusher r))).newest) z

  -- The bytes of completed pops are the first of the completed pushes.
  pub in_order : popped_bytes r s ≡ take outs (pushed_bytes r s)
  in_order =
      let w = I.flow (pusher r) (same_self (pusher r)) in
      let b = bounds in let k = (I.half (other (pusher r))).counted in
      let c : List ℕ = popped_bytes r s in let m : List ℕ = ((s.queue r).side (other (pusher r))).moved in
      let p : List ℕ = pushed_bytes r s in let v : List ℕ = ((s.queue r).side (pusher r)).moved in
      sym (take-append_seam c m) ∙ ap (λ (o : List ℕ). take outs o) (sym w.1 ∙ w.0.out_is)
      ∙ take-take outs (made h.till (other (pusher r)) r) (p ++ v) (omega arith) ∙ take-append-le outs p v (omega arith)

-- A run of any rings
module _ (p : Ring → Part) (names : ℕ → Named) (fair : (r : Ring) → Fair (p r)) {es : List Entry} {xs : List Result} {s : State}
    (run : Runs (machine_of p names) (fresh_of p) es xs s) where
  pub holds : s.halted ≡ false → All (machine_of p names) s.trace s.queue
  holds = run_live (fair_sizes p names fair) (λ h. fresh_all p names) run

  -- FOR ALL SETTINGS, up to a halt and after it.
  pub flows : (r : Ring) → Flows r (p r) (of_ring r xs) s
  flows r =
      let h = run_steady (fair_sizes p names fair) (λ h. fresh_all p names) (live_steady (machine_of p names) (fresh_of p) (fresh_all p names)) run r in
      let l = fair_sizes p names fair r in
      let b = bounds (machine_of p names) r l s h in
      let o = occupied (machine_of p names) r l s h in
      let ins : length (pushed_bytes r s) ≡ pushed r (p r) (of_ring r xs) = rw (same_self (pusher r)) at (completed_bytes p names r (pusher r) run) in
      let outs : length (popped_bytes r s) ≡ popped r (p r) (of_ring r xs) = rw (not_same (pusher r)) at (completed_bytes p names r (other (pusher r)) run) in
      record {
        occupancy_is = omega arith;
        within_ring = omega arith;
        first_in_first_out = rw (← outs) (in_order (machine_of p names) r l s h);
        out_begins = (h.kept.flow (pusher r) (same_self (pusher r))).1;
        from_the_file = completed_pushes p names r (fair r).enough run;
      }

  -- WITH STRONG ORDERS it does not halt.
  pub calm : ((r : Ring) → (p r).bits ≡ all_strong) → Calm (machine_of p names).orders xs s
  calm strong =
      let st = run_strong (fair_sizes p names fair) (λ r. strong_orders p names r (strong r)) (λ h. fresh_all p names) refl run in
      record {
        no_race = λ i j u. let h : s.halted ≡ true = (halts_at_races p names run).1 (i, j, u) in clash (cc st.0);
        no_race_mark = st.1;
        running = st.0;
      }

-- A lawful file of one ring
pub lawful_fair : (f : List ℕ) → Lawful f → Fair (part_of f)
lawful_fair f lawful =
    let h = lawful_ranges f lawful in
    record {
      some_slot = h.some_slot;
      laps = modulus_of f / ring_size f;
      divides = let d = h.divided in let k = div-add-mod (modulus_of f) (ring_size f) in omega arith;
      larger = h.above;
      enough = let e = (lawful_laid f lawful).bytes in omega arith;
    }

-- THE PROMISE OF EVERY SETTING
pub always_flows : AlwaysFlows
always_flows f lawful es xs s run = rw (of_one_ring f run) at (flows (λ r. part_of f) names_one (λ r. lawful_fair f lawful) run first_ring)

-- THE PROMISE OF STRONG ORDERS
pub strong_keeps : StrongKeeps
strong_keeps f lawful strong es xs s run = record {
  calm = calm (λ r. part_of f) names_one (λ r. lawful_fair f lawful) run (λ r. strong);
  flows = always_flows f lawful es xs s run;
}

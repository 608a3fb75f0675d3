-- While the machine has not halted, each slot holds the byte of its latest store.
use mathlib.Core.Path.{◌≡◌, refl, sym, ap, ◌∙◌}
use mathlib.Core.Logic.{inl, inr}
use mathlib.Core.Bool.{Bool, true, false}
use mathlib.Core.List.{List, ◌∷◌}
use Prim.Native.Nat.{ℕ, ◌+◌, ◌≤◌, ◌<◌}
use native.Mathlib.Omega.{arith}
use native.Mathlib.Nat.{mod-lt}
use lib.Dec.{eqb}
use lib.ListN.{length, get_or, set, length-set, length-replicate, get_or-replicate}
use lib.Seq.{get_or-set_same, get_or-set_other}
use borrow.Author.Tests.{eq-eqb, eqb-true, eqb-false}
use Rattle.order.specs.Trace.{Core, Ring, Place, slot, same_place, Act, store, Trace, stores_to, latest, stored, value_of}
use Rattle.order.specs.Order.{Orders}
use Rattle.order.proofs.Trace.{clash, or_none, act_next, act_old, StoreOf, store_in, latest_is}
use Rattle.model.specs.File.{Entry, Part}
use Rattle.model.specs.Marks.{race_found}
use Rattle.model.specs.Queue.{Named, nobody, named, Shape, Queue}
use Rattle.model.specs.Plan.{Plan, slot_of}
use Rattle.model.specs.Run.{Result, Does, State, after, first_ring, Entered, Step, Runs, stop, move, machine_of, fresh_of}
use Rattle.model.proofs.Rings.{with_either, ActIn, ring_of, step-at, stores_not}
use Rattle.model.proofs.Plan.{Planned, no_batch, no_age, past, owning, failing, keeping, storing, loading, completing, planned}

-- The value that a place's latest store gave it.
abbrev pub held : Trace → Place → ℕ
held t x = value_of t (latest t x)

latest_old : (t : Trace) (x : Place) → latest t x ≤ length t
latest_old t x = go (latest_is t x)
  where
    go : StoreOf t x (latest t x) → latest t x ≤ length t
    go (inl e) = omega arith
    go (inr e) = (store_in t x (latest t x) e).0

pub held_kept : (a : Act) (t : Trace) (x : Place) → stores_to x a ≡ false → held (a ∷ t) x ≡ held t x
held_kept a t x e = rw e (ap stored (act_old a t (latest t x) (latest_old t x)))

pub held_new : (a : Act) (t : Trace) (x : Place) → stores_to x a ≡ true → held (a ∷ t) x ≡ stored a
held_new a t x e = rw e (ap stored (act_next a t))

-- Slots and trace agree.
abbrev Agree : Shape → Ring → List ℕ → Trace → Type 0
Agree g r slots t = (y : ℕ) → y < g.size r → get_or slots y 0 ≡ held t (slot r y)

-- What an entry does to that: the slots stay as many, and unless it races they still agree.
abbrev Keeps : Shape → Ring → Queue → Trace → Result → Type 0
Keeps g r q t x = (length x.queue.slots ≡ length q.slots)
    × (eqb x.mark race_found ≡ false → Agree g r q.slots t → Agree g r x.queue.slots (x.did ∷ t))

-- An entry that stores no slot.
quiet : (g : Shape) (r : Ring) (q : Queue) (t : Trace) (x : Result) → x.queue.slots ≡ q.slots → ((y : ℕ) → stores_to (slot r y) x.did ≡ false)
    → Keeps g r q t x
quiet g r q t x e n = (ap length e, λ m h y l. rw e (h y l ∙ sym (held_kept x.did t (slot r y) (n y))))

module _ (g : Shape) (r : Ring) (c : Core) (q : Queue) (t : Trace) (pos : 0 < g.size r) (len : length q.slots ≡ g.size r) where
  storing_keeps : (y v : ℕ) → y < g.size r → Agree g r q.slots t → Agree g r (set q.slots y v) (store c (slot r y) v ∷ t)
  storing_keeps y v l h z m = go (same_place (slot r z) (slot r y)) refl
    where
      go : (b : Bool) → same_place (slot r z) (slot r y) ≡ b → get_or (set q.slots y v) z 0 ≡ held (store c (slot r y) v ∷ t) (slot r z)
      go true e =
          let same : z ≡ y = eqb-true z y (rw (eq-eqb r r refl) at e) in
          let there = get_or-set_same q.slots y v 0 (omega arith) in
          rw same (there ∙ sym (held_new (store c (slot r y) v) t (slot r y) (rw same at e)))
      go false e =
          let apart = eqb-false z y (rw (eq-eqb r r refl) at e) in
          get_or-set_other q.slots y z v 0 apart ∙ h z m ∙ sym (held_kept (store c (slot r y) v) t (slot r z) e)

  raced_keeps : (x : Result) → x.mark ≡ race_found → x.queue.slots ≡ q.slots → Keeps g r q t x
  raced_keeps x e k = (ap length k, λ m h. clash (cc (eq-eqb x.mark race_found e)))

  does_keeps : (o : Orders) {age : ℕ} {p : Plan} → Planned g r c q t age p → (x : Result) → Does o r c q t p x → Keeps g r q t x
  does_keeps o (no_batch e) x d = quiet g r q t x (rw d) (λ y. rw d)
  does_keeps o no_age x d = quiet g r q t x (rw d) (λ y. rw d)
  does_keeps o past x d = quiet g r q t x (rw d) (λ y. rw d)
  does_keeps o (owning n rest eb ep) x d = quiet g r q t x (rw d) (λ y. rw d)
  does_keeps o (failing n rest s eb ep e h) x (inl d) = quiet g r q t x (rw d.1) (λ y. rw d.1)
  does_keeps o (failing n rest s eb ep e h) x (inr d) = quiet g r q t x (rw d.1) (λ y. rw d.1)
  does_keeps o (keeping n rest s eb ep e h) x (inl d) = quiet g r q t x (rw d.1) (λ y. rw d.1)
  does_keeps o (keeping n rest s eb ep e h) x (inr d) = quiet g r q t x (rw d.1) (λ y. rw d.1)
  does_keeps o (storing n rest i eb ep l k) x (inl d) = raced_keeps x (rw d.2) (rw d.2)
  does_keeps o (storing n rest i eb ep l k) x (inr d) =
      let y = slot_of g r (q.side c).own i in
      let v = get_or q.feed 0 0 in
      rw d.1 (length-set q.slots y v, λ m h. storing_keeps y v (mod-lt ((q.side c).own + i) pos) h)
  does_keeps o (loading n rest i eb ep l k) x (inl d) = raced_keeps x (rw d.2) (rw d.2)
  does_keeps o (loading n rest i eb ep l k) x (inr d) = quiet g r q t x (rw d.1) (λ y. rw d.1)
  does_keeps o (completing n rest i eb ep l) x d = quiet g r q t x (rw d) (λ y. rw d)

entered_keeps : (g : Shape) (s : State) (age : ℕ) (c : Named) (h : Bool) (x : Result)
    → 0 < g.size (ring_of c) → length (s.queue (ring_of c)).slots ≡ g.size (ring_of c)
    → Entered g s age c h x → Keeps g (ring_of c) (s.queue (ring_of c)) s.trace x
entered_keeps g s age nobody h x pos len d = quiet g first_ring (s.queue first_ring) s.trace x (rw d) (λ y. rw d)
entered_keeps g s age (named r c) true x pos len d = quiet g r (s.queue r) s.trace x (rw d) (λ y. rw d)
entered_keeps g s age (named r c) false x pos len d =
    does_keeps g r c (s.queue r) s.trace pos len g.orders (planned g r c (s.queue r) s.trace age) x d

-- What a run keeps of ring r.
abbrev Hold : Shape → Ring → State → Type 0
Hold g r s = (length (s.queue r).slots ≡ g.size r) × (s.halted ≡ false → Agree g r (s.queue r).slots s.trace)

step_hold : (g : Shape) (r : Ring) (s : State) (e : Entry) (x : Result) → 0 < g.size r → Step g s e x → Hold g r s → Hold g r (after s x)
step_hold g r s e x pos d h =
    let k = step-at g s e x d in
    go (ring_of (g.names e.core)) k.0 k.1 (λ p l. entered_keeps g s e.age (g.names e.core) s.halted x p l d)
  where
    go : (p : Ring) → x.ring ≡ p → ActIn p x.did
        → (0 < g.size p → length (s.queue p).slots ≡ g.size p → Keeps g p (s.queue p) s.trace x) → Hold g r (after s x)
    go p e a k = with_either (λ q. (length q.slots ≡ g.size r) × ((after s x).halted ≡ false → Agree g r q.slots (x.did ∷ s.trace)))
        s.queue x.ring x.queue r
        (λ y. let z : Keeps g r (s.queue r) s.trace x = rw (sym e ∙ y) at k pos h.0 in
        (z.0 ∙ h.0, λ m. let w = or_none s.halted (eqb x.mark race_found) m in z.1 w.1 (h.1 w.0)))
        (λ y. (
          h.0,
          λ m b l. let w = or_none s.halted (eqb x.mark race_found) m in
              h.1 w.0 b l ∙ sym (held_kept x.did s.trace (slot r b) (stores_not p r (slot r b) x.did a refl (λ z. y (e ∙ z)))),
        ))

run_hold : {g : Shape} {r : Ring} {s z : State} {es : List Entry} {xs : List Result} → 0 < g.size r → Hold g r s → Runs g s es xs z → Hold g r z
run_hold pos h stop = h
run_hold {g} {r} pos h (move {s = s} {e = e} {x = x} a p) = run_hold {r = r} pos (step_hold g r s e x pos a h) p

-- SLOTS HOLD their latest store's byte, after any run that has not halted, at every ring.
pub slots_hold : (p : Ring → Part) (names : ℕ → Named) (r : Ring) {z : State} {es : List Entry} {xs : List Result} → 0 < (p r).size
    → Runs (machine_of p names) (fresh_of p) es xs z → z.halted ≡ false
    → (y : ℕ) → y < (p r).size → get_or (z.queue r).slots y 0 ≡ value_of z.trace (latest z.trace (slot r y))
slots_hold p names r pos run =
    (run_hold {g = machine_of p names} {r = r} pos (length-replicate (p r).size 0, λ m y l. get_or-replicate (p r).size y 0 0 l) run).1

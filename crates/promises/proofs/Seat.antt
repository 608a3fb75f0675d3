-- The one ring's trace, as ring r of other rings has it: its producer in the seat of ring r's producer, its consumer in that of the consumer, its
-- places those of ring r. What the record answers does not change.
use mathlib.Core.Path.{◌≡◌, refl, sym, ap, ◌∙◌}
use mathlib.Core.Bool.{Bool, true, false, cond}
use mathlib.Core.List.{List, [], ◌∷◌, map}
use Prim.Native.Nat.{ℕ, suc}
use lib.Dec.{eqb}
use lib.ListN.{get_or, length-map}
use borrow.Author.Tests.{eq-eqb}
use Rattle.order.specs.Trace.{Core, core0, core1, other, same_core, Ring, Place, index, slot, same_place, Act, idle, load, store, Trace, next, act, is_store, stores_to, accesses, stores, latest, stored, value_of}
use Rattle.order.specs.Order.{Orders}
use Rattle.order.specs.computed.Record.{syncs, learn, know, reads, seen, out_of_reach, rival}
use Rattle.order.proofs.Trace.{other_other, same_self, same_other}
use Rattle.model.specs.Queue.{pusher, pushes}
use Rattle.model.specs.Run.{first_ring}
use Rattle.model.proofs.Rings.{PlaceIn, ActIn}

-- The core that takes core c's part at ring r.
abbrev pub seat : Ring → Core → Core
seat r core0 = pusher r
seat r core1 = other (pusher r)

-- Every action is of the one ring.
abbrev pub Here : Trace → Type 0
Here [] = Unit {0}
Here (a ∷ t) = ActIn first_ring a × Here t

module _ (r : Ring) where
  pub seat_other : (c : Core) → seat r (other c) ≡ other (seat r c)
  seat_other core0 = refl
  seat_other core1 = sym (other_other (pusher r))

  not_same : (c : Core) → same_core c (other c) ≡ false
  not_same core0 = refl
  not_same core1 = refl

  pub seat_same : (c d : Core) → same_core (seat r c) (seat r d) ≡ same_core c d
  seat_same core0 core0 = same_self (pusher r)
  seat_same core0 core1 = not_same (pusher r)
  seat_same core1 core0 = same_other (pusher r)
  seat_same core1 core1 = same_self (other (pusher r))

  -- Seats are exchanged or they are not: twice is nothing.
  pub seat_twice : (c : Core) → seat r (seat r c) ≡ c
  seat_twice c = go (pusher r) refl c
    where
      go : (b : Core) → pusher r ≡ b → (c : Core) → seat r (seat r c) ≡ c
      go core0 e core0 = rw (e, e)
      go core0 e core1 = rw (e, e)
      go core1 e core0 = rw (e, e)
      go core1 e core1 = rw (e, e)

  pub seat_pushes : (c : Core) → pushes r (seat r c) ≡ pushes first_ring c
  seat_pushes c = seat_same core0 c

  -- Places, actions and traces, moved.
  abbrev pub place : Place → Place
  place (index q c) = index r (seat r c)
  place (slot q y) = slot r y

  abbrev pub moved : Act → Act
  moved idle = idle
  moved (load c x s) = load (seat r c) (place x) s
  moved (store c x v) = store (seat r c) (place x) v

  abbrev pub moved_all : Trace → Trace
  moved_all t = map moved t

  same-place : (x y : Place) → PlaceIn first_ring x → PlaceIn first_ring y → same_place (place x) (place y) ≡ same_place x y
  same-place (index a c) (index b d) h k = rw (eq-eqb r r refl, h, k) (seat_same c d)
  same-place (index a c) (slot b y) h k = refl
  same-place (slot a x) (index b d) h k = refl
  same-place (slot a x) (slot b y) h k = rw (eq-eqb r r refl, h, k) refl

  pub moved_stores : (x : Place) (a : Act) → PlaceIn first_ring x → ActIn first_ring a → stores_to (place x) (moved a) ≡ stores_to x a
  moved_stores x idle h k = refl
  moved_stores x (load c y s) h k = refl
  moved_stores x (store c y v) h k = same-place x y h k

  moved_accesses : (c : Core) (x : Place) (a : Act) → PlaceIn first_ring x → ActIn first_ring a → accesses (seat r c) (place x) (moved a) ≡ accesses c x a
  moved_accesses c x idle h k = refl
  moved_accesses c x (load d y s) h k = rw (seat_same c d, same-place x y h k)
  moved_accesses c x (store d y v) h k = rw (seat_same c d, same-place x y h k)

  pub moved-is_store : (a : Act) → is_store (moved a) ≡ is_store a
  moved-is_store idle = refl
  moved-is_store (load c x s) = refl
  moved-is_store (store c x v) = refl

  moved_stored : (a : Act) → stored (moved a) ≡ stored a
  moved_stored idle = refl
  moved_stored (load c x s) = refl
  moved_stored (store c x v) = refl

  pub moved_next : (t : Trace) → next (moved_all t) ≡ next t
  moved_next t = ap suc (length-map t moved)

  moved_act : (t : Trace) (p : ℕ) → act (moved_all t) p ≡ moved (act t p)
  moved_act [] p = refl
  moved_act (a ∷ t) p = rw (moved_next t, moved_act t p) (pick (eqb p (next t)))
    where
      pick : (b : Bool) → cond b (moved a) (moved (act t p)) ≡ moved (cond b a (act t p))
      pick true = refl
      pick false = refl

  pub moved_value : (t : Trace) (s : ℕ) → value_of (moved_all t) s ≡ value_of t s
  moved_value t s = ap stored (moved_act t s) ∙ moved_stored (act t s)

  pub stores_moved : (x : Place) → PlaceIn first_ring x → (t : Trace) → Here t → stores (moved_all t) (place x) ≡ stores t x
  stores_moved x h [] k = refl
  stores_moved x h (a ∷ t) k = rw (moved_stores x a h k.0, moved_next t, stores_moved x h t k.1)

  pub latest_moved : (x : Place) → PlaceIn first_ring x → (t : Trace) → Here t → latest (moved_all t) (place x) ≡ latest t x
  latest_moved x h t k = ap (λ (l : List ℕ). get_or l 0 0) (stores_moved x h t k)

  -- What core c has read of a place.
  moved_reads : (c : Core) (x : Place) (a : Act) → PlaceIn first_ring x → ActIn first_ring a → reads (seat r c) (place x) (moved a) ≡ reads c x a
  moved_reads c x idle h k = refl
  moved_reads c x (load d y s) h k = rw (seat_same c d, same-place x y h k)
  moved_reads c x (store d y v) h k = refl

  seen_moved : (c : Core) (x : Place) → PlaceIn first_ring x → (t : Trace) → Here t → seen (moved_all t) (seat r c) (place x) ≡ seen t c x
  seen_moved c x h [] k = refl
  seen_moved c x h (a ∷ t) k = rw (seen_moved c x h t k.1, moved_reads c x a h k.0)

  -- The latest access of the other core.
  pub rival_moved : (c : Core) (x : Place) (w : Bool) → PlaceIn first_ring x → (t : Trace) → Here t
      → rival (moved_all t) (seat r c) (place x) w ≡ rival t c x w
  rival_moved c x w h [] k = refl
  rival_moved c x w h (a ∷ t) k =
      rw (← seat_other c, moved_accesses (other c) x a h k.0, moved-is_store a, moved_next t, rival_moved c x w h t k.1)

-- The orders of ring r are those of the one ring.
pub record Agree (o o₁ : Orders) (r : Ring) : Type 0 where
  pub acquire : (c : Core) → o.acquire r (seat r c) ≡ o₁.acquire first_ring c
  pub release : (c : Core) → o.release r (seat r c) ≡ o₁.release first_ring c

module _ (r : Ring) (o o₁ : Orders) (agree : Agree o o₁ r) where
  moved_syncs : (c : Core) (x : Place) → PlaceIn first_ring x → syncs o (seat r c) (place r x) ≡ syncs o₁ c x
  moved_syncs c (index q d) h =
      let a = agree.acquire c in
      let b = agree.release (other c) in
      rw (h, ← seat_other r c, seat_same r (other c) d, a, b)
  moved_syncs c (slot q y) h = refl

  moved_learn : (c : Core) (a : Act) → ActIn first_ring a → learn o (seat r c) (moved r a) ≡ learn o₁ c a
  moved_learn c idle h = refl
  moved_learn c (load d x s) h = rw (seat_same r c d, moved_syncs c x h)
  moved_learn c (store d x v) h = refl

  -- WHAT A CORE KNOWS is what the core whose part it takes knows.
  pub know_moved : (c : Core) (t : Trace) → Here t → know o (moved_all r t) (seat r c) ≡ know o₁ t c
  know_moved c [] k = refl
  know_moved c (a ∷ t) k = rw (know_moved c t k.1, moved_learn c a k.0)

  -- A STORE IS OUT OF REACH where it was.
  pub reach_moved : (c : Core) (x : Place) (s : ℕ) → PlaceIn first_ring x → (t : Trace) → Here t
      → out_of_reach o (moved_all r t) (seat r c) (place r x) s ≡ out_of_reach o₁ t c x s
  reach_moved c x s h t k = rw (stores_moved r x h t k, know_moved c t k, seen_moved r c x h t k)

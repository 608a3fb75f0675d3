-- An entry is of one ring: what it does is done there, and the other rings' queues stay.
use mathlib.Core.Path.{◌≡◌, refl, sym, subst}
use mathlib.Core.Logic.{inl, inr}
use mathlib.Core.Bool.{Bool, true, false, cond}
use mathlib.Core.List.{List, [], ◌∷◌}
use Prim.Native.Nat.{ℕ}
use lib.Dec.{eqb}
use borrow.Author.Tests.{eqb-true, eqb-false, eq-eqb, ne_eqb}
use Rattle.order.specs.Trace.{Core, Ring, Place, index, slot, Act, idle, load, store, Trace, stores_to}
use Rattle.order.specs.Order.{Orders}
use Rattle.order.proofs.Trace.{cond_elim}
use Rattle.model.specs.File.{Entry}
use Rattle.model.specs.Marks.{no_such_core, is_halted}
use Rattle.model.specs.Queue.{Named, nobody, named, Shape, Queue, with_queue}
use Rattle.model.specs.Plan.{Plan, refuse, perform, unless_hidden, unless_race, plan}
use Rattle.model.specs.Run.{Result, refused, Does, State, Entered, Step, Runs, stop, move}
use Rattle.model.specs.Report.{of_ring}
use Rattle.model.proofs.Plan.{Planned, no_batch, no_age, past, owning, failing, keeping, storing, loading, completing, planned}

-- The queue of a ring, with that of ring r replaced.
pub with_here : (f : Ring → Queue) (r : Ring) (q : Queue) → with_queue f r q r ≡ q
with_here f r q = rw (eq-eqb r r refl)

pub with_there : (f : Ring → Queue) (r : Ring) (q : Queue) (p : Ring) → ¬ (r ≡ p) → with_queue f r q p ≡ f p
with_there f r q p h = rw (ne_eqb r p h)

pub with_either : (P : Queue → Type 0) (f : Ring → Queue) (r : Ring) (q : Queue) (p : Ring) → (r ≡ p → P q) → (¬ (r ≡ p) → P (f p)) → P (with_queue f r q p)
with_either P f r q p a b = cond_elim P (eqb r p) q (f p) (λ e. a (eqb-true r p e)) (λ e. b (eqb-false r p e))

-- A place, and an action, of ring r.
abbrev pub PlaceIn : Ring → Place → Type 0
PlaceIn r (index p c) = p ≡ r
PlaceIn r (slot p y) = p ≡ r

abbrev pub ActIn : Ring → Act → Type 0
ActIn r idle = Unit {0}
ActIn r (load c x s) = PlaceIn r x
ActIn r (store c x v) = PlaceIn r x

abbrev PlanIn : Ring → Core → Plan → Type 0
PlanIn r c (refuse n) = Unit {0}
PlanIn r c (perform n a z) = ActIn r a
PlanIn r c (unless_hidden x s n z) = PlaceIn r x
PlanIn r c (unless_race x a n z) = ActIn r a

planned_in : {g : Shape} {r : Ring} {c : Core} {q : Queue} {t : Trace} {age : ℕ} {p : Plan} → Planned g r c q t age p → PlanIn r c p
planned_in (no_batch e) = tt
planned_in no_age = tt
planned_in past = tt
planned_in (owning n rest eb ep) = refl
planned_in (failing n rest s eb ep e h) = refl
planned_in (keeping n rest s eb ep e h) = refl
planned_in (storing n rest i eb ep l k) = refl
planned_in (loading n rest i eb ep l k) = refl
planned_in (completing n rest i eb ep l) = refl

-- The entry counts for ring r, and acts there.
abbrev pub At : Ring → Result → Type 0
At r x = (x.ring ≡ r) × ActIn r x.did

does_at : (o : Orders) (r : Ring) (c : Core) (q : Queue) (t : Trace) (p : Plan) (x : Result) → PlanIn r c p → Does o r c q t p x → At r x
does_at o r c q t (refuse n) x h d = rw d (refl, tt)
does_at o r c q t (perform n a z) x h d = rw d (refl, h)
does_at o r c q t (unless_hidden y s n z) x h (inl d) = rw d.1 (refl, tt)
does_at o r c q t (unless_hidden y s n z) x h (inr d) = rw d.1 (refl, h)
does_at o r c q t (unless_race y a n z) x h (inl d) = rw d.2 (refl, h)
does_at o r c q t (unless_race y a n z) x h (inr d) = rw d.1 (refl, h)

-- The ring that an entry names; the first, where it names nobody.
abbrev pub ring_of : Named → Ring
ring_of nobody = 0
ring_of (named r c) = r

pub entered_at : (g : Shape) (s : State) (age : ℕ) (c : Named) (h : Bool) (x : Result) → Entered g s age c h x → At (ring_of c) x
entered_at g s age nobody h x d = rw d (refl, tt)
entered_at g s age (named r c) true x d = rw d (refl, tt)
entered_at g s age (named r c) false x d =
    does_at g.orders r c (s.queue r) s.trace (plan g r c (s.queue r) s.trace age) x (planned_in (planned g r c (s.queue r) s.trace age)) d

pub step-at : (g : Shape) (s : State) (e : Entry) (x : Result) → Step g s e x → At (ring_of (g.names e.core)) x
step-at g s e x d = entered_at g s e.age (g.names e.core) s.halted x d

pub step_in : (g : Shape) (s : State) (e : Entry) (x : Result) → Step g s e x → ActIn x.ring x.did
step_in g s e x d = let k = step-at g s e x d in rw k.0 k.1

-- An action of one ring stores no place of another.
pub stores_not : (r p : Ring) (x : Place) (a : Act) → ActIn r a → PlaceIn p x → ¬ (r ≡ p) → stores_to x a ≡ false
stores_not r p x idle h k n = refl
stores_not r p x (load c y s) h k n = refl
stores_not r p (index a d) (store c (index b e) v) h k n = rw (ne_eqb a b (λ z. n (cc)))
stores_not r p (index a d) (store c (slot b e) v) h k n = refl
stores_not r p (slot a d) (store c (index b e) v) h k n = refl
stores_not r p (slot a d) (store c (slot b e) v) h k n = rw (ne_eqb a b (λ z. n (cc)))

-- A RUN AS RING r SEES IT: its queue, the results that count for it, and its queue at the end. The memory rules are left out of it.

-- One entry, from queue q: refused before any plan is made, or a core's plan carried out on some trace.
pub data Turn (g : Shape) (r : Ring) (q : Queue) (x : Result) : Type 0 where
  stranger : x ≡ refused r q no_such_core → Turn g r q x
  halted : x ≡ refused r q is_halted → Turn g r q x
  does : (c : Core) (t : Trace) (age : ℕ) (p : Plan) → Planned g r c q t age p → Does g.orders r c q t p x → Turn g r q x

pub data Turns (g : Shape) (r : Ring) : Queue → List Result → Queue → Type 0 where
  none_left : {q : Queue} → Turns g r q [] q
  turn : {q z : Queue} {x : Result} {xs : List Result} → Turn g r q x → Turns g r x.queue xs z → Turns g r q (x ∷ xs) z

entered_turn : (g : Shape) (s : State) (age : ℕ) (c : Named) (h : Bool) (x : Result) → Entered g s age c h x → Turn g (ring_of c) (s.queue (ring_of c)) x
entered_turn g s age nobody h x d = stranger d
entered_turn g s age (named r c) true x d = halted d
entered_turn g s age (named r c) false x d = does c s.trace age (plan g r c (s.queue r) s.trace age) (planned g r c (s.queue r) s.trace age) d

-- An entry of ring r, or of another.
pub step_turn : (g : Shape) (s : State) (e : Entry) (x : Result) → Step g s e x → Turn g x.ring (s.queue x.ring) x
step_turn g s e x d = subst (λ (r : Ring). Turn g r (s.queue r) x) (sym (step-at g s e x d).0) (entered_turn g s e.age (g.names e.core) s.halted x d)

pub run_turns : {g : Shape} {s z : State} {es : List Entry} {xs : List Result} (r : Ring) → Runs g s es xs z
    → Turns g r (s.queue r) (of_ring r xs) (z.queue r)
run_turns r stop = none_left
run_turns {g} r (move {s = s} {z = z} {e = e} {x = x} {xs = xs} a p) = go (eqb x.ring r) refl (run_turns r p)
  where
    go : (b : Bool) → eqb x.ring r ≡ b → Turns g r (cond (eqb x.ring r) x.queue (s.queue r)) (of_ring r xs) (z.queue r)
        → Turns g r (s.queue r) (cond (eqb x.ring r) (x ∷ of_ring r xs) (of_ring r xs)) (z.queue r)
    go true e h =
        let d = subst (λ (r : Ring). Turn g r (s.queue r) x) (eqb-true x.ring r e) (step_turn g s _ x a) in
        rw e (turn d (rw e at h))
    go false e h = rw e (rw e at h)

-- Mark 134 is given exactly where the store to be read is out of reach; with age 0 it never is. A run has one ring, so what axiom 2 hides the core
-- has passed as well.
use mathlib.Core.Path.{◌≡◌, sym, ◌∙◌, subst}
use mathlib.Core.Logic.{◌↔◌, inl, inr}
use mathlib.Core.Bool.{Bool, true, false}
use mathlib.Core.List.{List}
use Prim.Native.Nat.{ℕ}
use native.Mathlib.Omega.{arith}
use Rattle.order.specs.Trace.{Core, other, Ring, index, slot, Act, idle, load, store, Trace, stores}
use Rattle.order.specs.Order.{Orders}
use Rattle.order.specs.Hidden.{Hidden}
use Rattle.order.specs.Coherence.{Passed}
use Rattle.order.specs.Reads.{OutOfReach}
use Rattle.order.proofs.Trace.{clash, get_elem-get_or, StoreOf}
use Rattle.order.proofs.Chain.{Formed}
use Rattle.order.proofs.Coherence.{latest_in_reach, LoadsIn, AllIn, hidden_is_passed}
use Rattle.model.specs.File.{Entry, Part}
use Rattle.model.specs.Marks.{own_loaded, foreign_loaded, batch_failed, data_stored, data_loaded, index_stored, race_found, no_such_core, is_halted, no_batch_left, no_age_here, past_initial, store_hidden}
use Rattle.model.specs.Queue.{Named, nobody, named, Shape, Queue}
use Rattle.model.specs.Plan.{Plan, refuse, perform, unless_hidden, unless_race, plan}
use Rattle.model.specs.Run.{Result, Does, State, first_ring, Entered, Step, Runs, stop, move, machine_of, fresh_of, shape_of, fresh}
use Rattle.model.proofs.Rings.{ActIn, step-at}
use Rattle.model.proofs.OneRing.{one_ring}
use Rattle.model.proofs.Plan.{Planned, no_batch, no_age, past, owning, failing, keeping, storing, loading, completing, planned}
use Rattle.model.proofs.Formed.{run_formed}

-- The plan is to read a store that is out of reach.
abbrev pub Barred : Orders → Trace → Core → Plan → Type 0
Barred o t c (refuse n) = ⊥
Barred o t c (perform n a z) = ⊥
Barred o t c (unless_hidden x s n z) = OutOfReach o t c x s
Barred o t c (unless_race x a n z) = ⊥

-- The entry is of one of the two cores, the machine has not halted, and the core's plan is to read a store that is out of reach.
abbrev pub BarredEntry : Shape → State → ℕ → Named → Bool → Type 0
BarredEntry g s age nobody h = ⊥
BarredEntry g s age (named r c) true = ⊥
BarredEntry g s age (named r c) false = Barred g.orders s.trace c (plan g r c (s.queue r) s.trace age)

-- A mark but this one, where nothing is out of reach.
in_reach : {A : Type 0} (x : Result) (n : ℕ) → x.mark ≡ n → ¬ (n ≡ store_hidden) → ¬ A → (x.mark ≡ store_hidden) ↔ A
in_reach x n e k a = (λ h. absurd (k (cc)), λ h. absurd (a h))

module _ (g : Shape) (r : Ring) (c : Core) (q : Queue) (t : Trace) where
  does_exactly : (o : Orders) {age : ℕ} {p : Plan} → Planned g r c q t age p → (x : Result) → Does o r c q t p x
      → (x.mark ≡ store_hidden) ↔ Barred o t c p
  does_exactly o (no_batch e) x d = in_reach x no_batch_left (rw d) (omega arith) (λ h. h)
  does_exactly o no_age x d = in_reach x no_age_here (rw d) (omega arith) (λ h. h)
  does_exactly o past x d = in_reach x past_initial (rw d) (omega arith) (λ h. h)
  does_exactly o (owning n rest eb ep) x d = in_reach x own_loaded (rw d) (omega arith) (λ h. h)
  does_exactly o (failing n rest s eb ep e h) x (inl d) = (λ k. d.0, λ k. rw d.1)
  does_exactly o (failing n rest s eb ep e h) x (inr d) = in_reach x batch_failed (rw d.1) (omega arith) d.0
  does_exactly o (keeping n rest s eb ep e h) x (inl d) = (λ k. d.0, λ k. rw d.1)
  does_exactly o (keeping n rest s eb ep e h) x (inr d) = in_reach x foreign_loaded (rw d.1) (omega arith) d.0
  does_exactly o (storing n rest i eb ep l k) x (inl d) = in_reach x race_found (rw d.2) (omega arith) (λ h. h)
  does_exactly o (storing n rest i eb ep l k) x (inr d) = in_reach x data_stored (rw d.1) (omega arith) (λ h. h)
  does_exactly o (loading n rest i eb ep l k) x (inl d) = in_reach x race_found (rw d.2) (omega arith) (λ h. h)
  does_exactly o (loading n rest i eb ep l k) x (inr d) = in_reach x data_loaded (rw d.1) (omega arith) (λ h. h)
  does_exactly o (completing n rest i eb ep l) x d = in_reach x index_stored (rw d) (omega arith) (λ h. h)

  -- With age 0 the plan is to read the newest store, and that is never out of reach.
  planned_newest : (o : Orders) → Formed t → {p : Plan} → Planned g r c q t 0 p → ¬ Barred o t c p
  planned_newest o f (no_batch e) h = h
  planned_newest o f no_age h = h
  planned_newest o f past h = h
  planned_newest o f (owning n rest eb ep) h = h
  planned_newest o f (failing n rest s eb ep e k) h =
      latest_in_reach o t f c (index r (other c)) (rw (get_elem-get_or (stores t (index r (other c))) 0 s e) h)
  planned_newest o f (keeping n rest s eb ep e k) h =
      latest_in_reach o t f c (index r (other c)) (rw (get_elem-get_or (stores t (index r (other c))) 0 s e) h)
  planned_newest o f (storing n rest i eb ep l k) h = h
  planned_newest o f (loading n rest i eb ep l k) h = h
  planned_newest o f (completing n rest i eb ep l) h = h

entered_exactly : (g : Shape) (s : State) (age : ℕ) (c : Named) (h : Bool) (x : Result) → Entered g s age c h x
    → (x.mark ≡ store_hidden) ↔ BarredEntry g s age c h
entered_exactly g s age nobody h x d = in_reach x no_such_core (rw d) (omega arith) (λ k. k)
entered_exactly g s age (named r c) true x d = in_reach x is_halted (rw d) (omega arith) (λ k. k)
entered_exactly g s age (named r c) false x d =
    does_exactly g r c (s.queue r) s.trace g.orders (planned g r c (s.queue r) s.trace age) x d

-- MARK 134 is given exactly where the core's plan is to read a store that is out of reach.
pub out_of_reach_exactly : (g : Shape) (s : State) (e : Entry) (x : Result) → Step g s e x
    → (x.mark ≡ store_hidden) ↔ BarredEntry g s e.age (g.names e.core) s.halted
out_of_reach_exactly g s e x d = entered_exactly g s e.age (g.names e.core) s.halted x d

entered_newest : (g : Shape) (s : State) (c : Named) (h : Bool) → Formed s.trace → ¬ BarredEntry g s 0 c h
entered_newest g s nobody h f k = k
entered_newest g s (named r c) true f k = k
entered_newest g s (named r c) false f k =
    planned_newest g r c (s.queue r) s.trace g.orders f (planned g r c (s.queue r) s.trace 0) k

-- THE NEWEST STORE IS NEVER REFUSED: after any run an entry with age 0 does not get mark 134.
pub newest_never_refused : (p : Ring → Part) (names : ℕ → Named) {es : List Entry} {xs : List Result} {s : State} → Runs (machine_of p names) (fresh_of p) es xs s
    → (e : Entry) (x : Result) → e.age ≡ 0 → Step (machine_of p names) s e x → ¬ (x.mark ≡ store_hidden)
newest_never_refused p names {s = s} run e x young d k =
    let b = (out_of_reach_exactly (machine_of p names) s e x d).0 k in
    entered_newest (machine_of p names) s (names e.core) s.halted (run_formed tt run) (subst (λ a. BarredEntry (machine_of p names) s a (names e.core) s.halted) young b)

-- ONE RING: the index loads of a run of one ring are of that ring.
loads_in : (r : Ring) (a : Act) → ActIn r a → LoadsIn r a
loads_in r idle h c d p s e = clash (cc)
loads_in r (load c (index q b) s) h d k p n e = let z : q ≡ p = cc in sym z ∙ h
loads_in r (load c (slot q y) s) h d k p n e = clash (cc)
loads_in r (store c x v) h d k p s e = clash (cc)

-- Every load of an index, in a run of one ring, is of that ring.
pub run_in : (f : List ℕ) {s z : State} {es : List Entry} {xs : List Result} → AllIn first_ring s.trace → Runs (shape_of f) s es xs z → AllIn first_ring z.trace
run_in f h stop = h
run_in f h (move {s = s} {e = e} {x = x} a p) =
    let k = step-at (shape_of f) s e x a in
    run_in f (loads_in first_ring x.did (rw (one_ring e.core) at k.1), h) p

-- WHAT AXIOM 2 HIDES from a core, after any run, the core has passed: with one ring it forbids nothing that coherence allows.
pub run_hidden_is_passed : (f : List ℕ) {es : List Entry} {xs : List Result} {s : State} → Runs (shape_of f) (fresh f) es xs s
    → (c : Core) (n : ℕ) → StoreOf s.trace (index first_ring (other c)) n
    → Hidden (shape_of f).orders s.trace c (index first_ring (other c)) n → Passed s.trace c (index first_ring (other c)) n
run_hidden_is_passed f {s = s} run c n st h = hidden_is_passed (shape_of f).orders s.trace (run_formed tt run) first_ring (run_in f tt run) c n st h

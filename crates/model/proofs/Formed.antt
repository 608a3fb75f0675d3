-- Every run makes a well-formed trace: each load reads a store of its place, and each index is stored by its own core.
use mathlib.Core.Path.{◌≡◌, refl}
use mathlib.Core.Logic.{inl, inr}
use mathlib.Core.Bool.{Bool, true, false}
use mathlib.Core.List.{List}
use Prim.Native.Nat.{ℕ}
use Rattle.order.specs.Trace.{Core, other, Ring, index, slot, Trace}
use Rattle.order.specs.Order.{Orders}
use Rattle.order.proofs.Trace.{StoreOf, stores_are, latest_is}
use Rattle.order.proofs.Chain.{Fits, Formed}
use Rattle.order.proofs.Record.{AccessOf}
use Rattle.model.specs.File.{Entry}
use Rattle.model.specs.Queue.{Named, nobody, named, Shape, Queue}
use Rattle.model.specs.Plan.{Plan, refuse, perform, unless_hidden, unless_race, slot_of, plan}
use Rattle.model.specs.Run.{Result, Does, State, Entered, Step, Runs, stop, move}
use Rattle.model.proofs.Plan.{Planned, no_batch, no_age, past, owning, failing, keeping, storing, loading, completing, planned}

-- What a plan's action is, as far as the memory rules ask.
abbrev pub PlanFits : Trace → Core → Ring → Plan → Type 0
PlanFits t c r (refuse n) = Unit {0}
PlanFits t c r (perform n a z) = Fits t a
PlanFits t c r (unless_hidden x s n z) = (x ≡ index r (other c)) × StoreOf t x s
PlanFits t c r (unless_race x a n z) = (y : ℕ) × (x ≡ slot r y) × AccessOf a c r y × Fits t a

planned_fits : {g : Shape} {r : Ring} {c : Core} {q : Queue} {t : Trace} {age : ℕ} {p : Plan} → Planned g r c q t age p → PlanFits t c r p
planned_fits (no_batch e) = tt
planned_fits no_age = tt
planned_fits past = tt
planned_fits {r = r} {c = c} {t = t} (owning n rest eb ep) = latest_is t (index r c)
planned_fits {r = r} {c = c} {t = t} {age = age} (failing n rest s eb ep e h) = (refl, stores_are t (index r (other c)) age s e)
planned_fits {r = r} {c = c} {t = t} {age = age} (keeping n rest s eb ep e h) = (refl, stores_are t (index r (other c)) age s e)
planned_fits {g = g} {r = r} {c = c} {q = q} (storing n rest i eb ep l k) = (slot_of g r (q.side c).own i, refl, inr (_, refl), tt)
planned_fits {g = g} {r = r} {c = c} {q = q} {t = t} (loading n rest i eb ep l k) =
    (slot_of g r (q.side c).own i, refl, inl (_, refl), latest_is t (slot r (slot_of g r (q.side c).own i)))
planned_fits (completing n rest i eb ep l) = refl

pub plan_fits : (g : Shape) (r : Ring) (c : Core) (q : Queue) (t : Trace) (age : ℕ) → PlanFits t c r (plan g r c q t age)
plan_fits g r c q t age = planned_fits (planned g r c q t age)

does_fits : (o : Orders) (r : Ring) (c : Core) (q : Queue) (t : Trace) (p : Plan) (x : Result) → PlanFits t c r p → Does o r c q t p x → Fits t x.did
does_fits o r c q t (refuse n) x h d = rw d tt
does_fits o r c q t (perform n a z) x h d = rw d h
does_fits o r c q t (unless_hidden p s n z) x h (inl d) = rw d.1 tt
does_fits o r c q t (unless_hidden p s n z) x h (inr d) = rw d.1 h.1
does_fits o r c q t (unless_race p a n z) x h (inl d) = rw d.2 h.3
does_fits o r c q t (unless_race p a n z) x h (inr d) = rw d.1 h.3

entered_fits : (g : Shape) (s : State) (age : ℕ) (c : Named) (h : Bool) (x : Result) → Entered g s age c h x → Fits s.trace x.did
entered_fits g s age nobody h x d = rw d tt
entered_fits g s age (named r c) true x d = rw d tt
entered_fits g s age (named r c) false x d =
    does_fits g.orders r c (s.queue r) s.trace (plan g r c (s.queue r) s.trace age) x
    (plan_fits g r c (s.queue r) s.trace age) d

pub step_fits : (g : Shape) (s : State) (e : Entry) (x : Result) → Step g s e x → Fits s.trace x.did
step_fits g s e x d = entered_fits g s e.age (g.names e.core) s.halted x d

pub run_formed : {g : Shape} {s z : State} {es : List Entry} {xs : List Result} → Formed s.trace → Runs g s es xs z → Formed z.trace
run_formed f stop = f
run_formed {g} f (move {s = s} {e = e} {x = x} a p) = run_formed (step_fits g s e x a, f) p

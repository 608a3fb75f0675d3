-- A refused entry leaves the state as it was and adds no action.
use mathlib.Core.Path.{◌≡◌, refl, sym, ap, ◌∙◌}
use mathlib.Core.Logic.{inl, inr}
use mathlib.Core.Bool.{Bool, true, false}
use mathlib.Core.List.{◌∷◌}
use Prim.Native.Nat.{ℕ, ◌≤◌, ◌<◌}
use native.Mathlib.Omega.{arith}
use native.Mathlib.Decide.{dec_le}
use lib.Dec.{eqb}
use lib.ListN.{length}
use borrow.Author.Tests.{ne_eqb}
use Rattle.order.specs.Trace.{Core, Ring, idle, Trace, act}
use Rattle.order.specs.Order.{Orders}
use Rattle.order.proofs.Trace.{or_false, act_old, act_out}
use Rattle.model.specs.File.{Entry}
use Rattle.model.specs.Marks.{race_found, no_such_core}
use Rattle.model.specs.Queue.{Named, nobody, named, Shape, Queue}
use Rattle.model.specs.Plan.{Plan, refuse, perform, unless_hidden, unless_race, plan}
use Rattle.model.specs.Run.{Result, Does, State, after, Entered, Step}
use Rattle.model.proofs.Rings.{with_either, ring_of}
use Rattle.model.proofs.Plan.{Planned, no_batch, no_age, past, owning, failing, keeping, storing, loading, completing, planned}

-- The marks that a plan can give: 129 and above where it refuses, 1 to 6 where it performs.
abbrev pub PlanMarks : Plan → Type 0
PlanMarks (refuse n) = no_such_core ≤ n
PlanMarks (perform n a z) = n < race_found
PlanMarks (unless_hidden x s n z) = n < race_found
PlanMarks (unless_race x a n z) = n < race_found

planned_marks : {g : Shape} {r : Ring} {c : Core} {q : Queue} {t : Trace} {age : ℕ} {p : Plan} → Planned g r c q t age p → PlanMarks p
planned_marks (no_batch e) = omega arith
planned_marks no_age = omega arith
planned_marks past = omega arith
planned_marks (owning n rest eb ep) = omega arith
planned_marks (failing n rest s eb ep e h) = omega arith
planned_marks (keeping n rest s eb ep e h) = omega arith
planned_marks (storing n rest i eb ep l k) = omega arith
planned_marks (loading n rest i eb ep l k) = omega arith
planned_marks (completing n rest i eb ep l) = omega arith

pub plan_marks : (g : Shape) (r : Ring) (c : Core) (q : Queue) (t : Trace) (age : ℕ) → PlanMarks (plan g r c q t age)
plan_marks g r c q t age = planned_marks (planned g r c q t age)

does_refused : (o : Orders) (r : Ring) (c : Core) (q : Queue) (t : Trace) (p : Plan) (x : Result) → PlanMarks p → Does o r c q t p x → no_such_core ≤ x.mark
    → (x.ring ≡ r) × (x.did ≡ idle) × (x.queue ≡ q)
does_refused o r c q t (refuse n) x h d l = rw d (refl, refl, refl)
does_refused o r c q t (perform n a z) x h d l = let e : x.mark ≡ n = rw d in absurd (omega arith)
does_refused o r c q t (unless_hidden p s n z) x h (inl d) l = rw d.1 (refl, refl, refl)
does_refused o r c q t (unless_hidden p s n z) x h (inr d) l = let e : x.mark ≡ n = rw d.1 in absurd (omega arith)
does_refused o r c q t (unless_race p a n z) x h (inl d) l = let e : x.mark ≡ race_found = rw d.2 in absurd (omega arith)
does_refused o r c q t (unless_race p a n z) x h (inr d) l = let e : x.mark ≡ n = rw d.1 in absurd (omega arith)

entered_refused : (g : Shape) (s : State) (age : ℕ) (c : Named) (h : Bool) (x : Result) → Entered g s age c h x → no_such_core ≤ x.mark
    → (x.ring ≡ ring_of c) × (x.did ≡ idle) × (x.queue ≡ s.queue (ring_of c))
entered_refused g s age nobody h x d l = rw d (refl, refl, refl)
entered_refused g s age (named r c) true x d l = rw d (refl, refl, refl)
entered_refused g s age (named r c) false x d l =
    does_refused g.orders r c (s.queue r) s.trace (plan g r c (s.queue r) s.trace age) x
    (plan_marks g r c (s.queue r) s.trace age) d l

idle_adds_nothing : (t : Trace) (p : ℕ) → act (idle ∷ t) p ≡ act t p
idle_adds_nothing t p = elim (dec_le p (length t)) [
  | yes q ↦ act_old idle t p q
  | no q ↦ go (act_out t p (omega arith)) (eqb p (Rattle.order.specs.Trace.next t)) refl
]
  where
    go : act t p ≡ idle → (b : Bool) → eqb p (Rattle.order.specs.Trace.next t) ≡ b → act (idle ∷ t) p ≡ act t p
    go e true k = rw (k, e)
    go e false k = rw k

-- A REFUSED ENTRY: every queue and whether the machine has halted stay, and every entry did what it did; this one did nothing.
pub refused_changes_nothing : (g : Shape) (s : State) (e : Entry) (x : Result) → Step g s e x → no_such_core ≤ x.mark
    → (x.did ≡ idle) × ((r : Ring) → (after s x).queue r ≡ s.queue r) × ((after s x).halted ≡ s.halted)
    × ((p : ℕ) → act (after s x).trace p ≡ act s.trace p)
refused_changes_nothing g s e x d l =
    let k = entered_refused g s e.age (g.names e.core) s.halted x d l in
    let ed : x.did ≡ idle = k.1 in
    let eq : (r : Ring) → (after s x).queue r ≡ s.queue r = λ r. with_either (λ q. q ≡ s.queue r) s.queue x.ring x.queue r
    (λ e. k.2 ∙ ap s.queue (sym k.0 ∙ e)) (λ e. refl) in
    (ed, eq, rw (ne_eqb x.mark race_found (omega arith)) (or_false s.halted), λ p. rw ed (idle_adds_nothing s.trace p))

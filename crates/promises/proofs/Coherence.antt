-- Where all orders are strong coherence changes nothing: what a core has passed, axiom 2 already hides from it.
use mathlib.Core.Path.{◌≡◌}
use mathlib.Core.Logic.{◌↔◌, inl, inr}
use mathlib.Core.Bool.{Bool, true, false}
use mathlib.Core.List.{List}
use Prim.Native.Nat.{ℕ}
use Rattle.order.specs.Trace.{Core, other, Ring, Place, index, Trace}
use Rattle.order.specs.Hidden.{Hidden}
use Rattle.order.specs.Reads.{OutOfReach, hidden, passed}
use Rattle.order.proofs.Trace.{StoreOf}
use Rattle.order.proofs.Chain.{Formed}
use Rattle.order.proofs.Coherence.{passed_is_hidden}
use Rattle.model.specs.File.{Entry, Part, part_of}
use Rattle.model.specs.Queue.{Named, nobody, named, Shape, Queue}
use Rattle.model.specs.Plan.{Plan, refuse, perform, unless_hidden, unless_race, plan}
use Rattle.model.specs.Run.{Result, DoesUnder, State, EnteredUnder, StepUnder, RunsUnder, stop, move, machine_of, fresh_of, names_one}
use Rattle.model.specs.PairFile.{parts_of, names_pair}
use Rattle.model.proofs.Formed.{PlanFits, plan_fits, step_fits}
use Rattle.model.proofs.One.{run_one}
use Rattle.promises.specs.Coherence.{CoherenceChangesNothing, CoherenceChangesNoPair, CoherenceChangesNoCall, CoherenceChangesNoPairCall}
use Rattle.promises.specs.Strong.{all_strong}
use Rattle.promises.proofs.Log.{Strong}
use Rattle.promises.proofs.Strong.{strong_orders}
use Rattle.promises.proofs.Pair.{pair_strong}

module _ (g : Shape) (st : (r : Ring) → Strong g r) where
  -- A store of the foreign index that is out of reach is hidden.
  just_hidden : (t : Trace) → Formed t → (r : Ring) (c : Core) (p : Place) (s : ℕ) → p ≡ index r (other c) → StoreOf t p s
      → OutOfReach g.orders t c p s → Hidden g.orders t c p s
  just_hidden t f r c p s e a (hidden h) = h
  just_hidden t f r c p s e a (passed k) =
      rw e (passed_is_hidden g.orders t f c r s ((st r).acquire c) ((st r).release (other c)) (rw e at a) (rw e at k))

  does_same : (r : Ring) (c : Core) (q : Queue) (t : Trace) (p : Plan) (x : Result) → Formed t → PlanFits t c r p
      → DoesUnder OutOfReach g.orders r c q t p x ↔ DoesUnder Hidden g.orders r c q t p x
  does_same r c q t (refuse n) x f h = (λ d. d, λ d. d)
  does_same r c q t (perform n a z) x f h = (λ d. d, λ d. d)
  does_same r c q t (unless_race p a n z) x f h = (λ d. d, λ d. d)
  does_same r c q t (unless_hidden p s n z) x f h = (to, from)
    where
      to : DoesUnder OutOfReach g.orders r c q t (unless_hidden p s n z) x → DoesUnder Hidden g.orders r c q t (unless_hidden p s n z) x
      to (inl d) = inl (just_hidden t f r c p s h.0 h.1 d.0, d.1)
      to (inr d) = inr ((λ k. d.0 (hidden k)), d.1)

      from : DoesUnder Hidden g.orders r c q t (unless_hidden p s n z) x → DoesUnder OutOfReach g.orders r c q t (unless_hidden p s n z) x
      from (inl d) = inl (hidden d.0, d.1)
      from (inr d) = inr ((λ k. d.0 (just_hidden t f r c p s h.0 h.1 k)), d.1)

  entered_same : (s : State) (age : ℕ) (c : Named) (h : Bool) (x : Result) → Formed s.trace
      → EnteredUnder OutOfReach g s age c h x ↔ EnteredUnder Hidden g s age c h x
  entered_same s age nobody h x f = (λ d. d, λ d. d)
  entered_same s age (named r c) true x f = (λ d. d, λ d. d)
  entered_same s age (named r c) false x f =
      does_same r c (s.queue r) s.trace (plan g r c (s.queue r) s.trace age) x f (plan_fits g r c (s.queue r) s.trace age)

  step_same : (s : State) (e : Entry) (x : Result) → Formed s.trace → StepUnder OutOfReach g s e x ↔ StepUnder Hidden g s e x
  step_same s e x f = entered_same s e.age (g.names e.core) s.halted x f

  without : {s z : State} {es : List Entry} {xs : List Result} → Formed s.trace → RunsUnder OutOfReach g s es xs z → RunsUnder Hidden g s es xs z
  without f stop = stop
  without f (move {s = s} {e = e} {x = x} a p) = move ((step_same s e x f).0 a) (without (step_fits g s e x a, f) p)

  with_too : {s z : State} {es : List Entry} {xs : List Result} → Formed s.trace → RunsUnder Hidden g s es xs z → RunsUnder OutOfReach g s es xs z
  with_too f stop = stop
  with_too f (move {s = s} {e = e} {x = x} a p) =
      let b = (step_same s e x f).1 a in
      move b (with_too (step_fits g s e x b, f) p)

-- Of any rings whose orders are all strong.
module _ (p : Ring → Part) (names : ℕ → Named) (strong : (r : Ring) → (p r).bits ≡ all_strong) where
  changes_nothing : (es : List Entry) (xs : List Result) (z : State)
      → RunsUnder OutOfReach (machine_of p names) (fresh_of p) es xs z ↔ RunsUnder Hidden (machine_of p names) (fresh_of p) es xs z
  changes_nothing es xs z =
      let st : (r : Ring) → Strong (machine_of p names) r = λ r. strong_orders p names r (strong r) in
      (without (machine_of p names) st tt, with_too (machine_of p names) st tt)

  -- The one run that axiom 2 alone allows is the machine's own.
  own_run : {es : List Entry} {ys : List Result} {y : State} → RunsUnder OutOfReach (machine_of p names) (fresh_of p) es ys y
      → (xs : List Result) (z : State) → RunsUnder Hidden (machine_of p names) (fresh_of p) es xs z ↔ ((xs ≡ ys) × (z ≡ y))
  own_run {es = es} {ys = ys} {y = y} own xs z = (
    λ q. run_one ((changes_nothing es xs z).1 q) own,
    λ e. rw (e.0, e.1) ((changes_nothing es ys y).0 own),
  )

-- WITH ALL ORDERS STRONG COHERENCE CHANGES NOTHING: no mark, no byte and no number.
pub coherence_changes_nothing : CoherenceChangesNothing
coherence_changes_nothing f strong = changes_nothing (λ r. part_of f) names_one (λ r. strong)

pub coherence_changes_no_pair : CoherenceChangesNoPair
coherence_changes_no_pair f strong₁ strong₂ = changes_nothing (parts_of f) names_pair (pair_strong f strong₁ strong₂)

-- .. and so of a call.
pub coherence_changes_no_call : CoherenceChangesNoCall
coherence_changes_no_call f marks out report r marks' out' report' call ran strong = own_run (λ r. part_of f) names_one (λ r. strong) (call.lawful ran).run

pub coherence_changes_no_pair_call : CoherenceChangesNoPairCall
coherence_changes_no_pair_call f b r b' call ran strong₁ strong₂ =
    own_run (parts_of f) names_pair (pair_strong f strong₁ strong₂) (call.lawful ran).run

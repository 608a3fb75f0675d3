-- A run of some rings over entries that all name ring r: its results are those of the ring alone, with its cores in the seats of ring r.
use mathlib.Core.Path.{◌≡◌, refl, sym, ap, ◌∙◌}
use mathlib.Core.Bool.{Bool, true, false, cond, ◌||◌}
use mathlib.Core.List.{List, [], ◌∷◌, map}
use Prim.Native.Nat.{ℕ}
use lib.Dec.{eqb, ltb}
use Rattle.order.specs.Trace.{Core, Ring, load, Trace, is_store}
use Rattle.order.specs.computed.Record.{know, out_of_reach, rival}
use Rattle.order.proofs.Chain.{Formed}
use Rattle.model.specs.File.{Entry, Part}
use Rattle.model.specs.Marks.{race_found, is_halted, store_hidden}
use Rattle.model.specs.Queue.{Named, named, Shape, Queue, with_queue, pushes}
use Rattle.model.specs.Plan.{Plan, refuse, perform, unless_hidden, unless_race, plan}
use Rattle.model.specs.Run.{Result, refused, performed, raced, State, after, first_ring, machine_of, fresh_side, fresh_queue, fresh_of, names_one}
use Rattle.model.specs.computed.Machine.{decided, entered, step, results, ends}
use Rattle.model.proofs.Rings.{with_here, ActIn, step-at}
use Rattle.model.proofs.OneRing.{one_ring}
use Rattle.model.proofs.Formed.{PlanFits, plan_fits, step_fits}
use Rattle.model.proofs.Some.{step_allowed}
use Rattle.promises.proofs.Seat.{seat, Here, seat_twice, seat_pushes, place, moved, moved_all, moved-is_store, rival_moved, know_moved, reach_moved}
use Rattle.promises.proofs.Seated.{seated, plan_at, agree, plan_is}

-- A result, moved.
abbrev pub result_at : Ring → Result → Result
result_at r x = record { ring = r; mark = x.mark; did = moved r x.did; queue = seated r x.queue; partner = x.partner }

cond_result : (r : Ring) (b b₁ : Bool) (x y x₁ y₁ : Result) → b ≡ b₁ → x ≡ result_at r x₁ → y ≡ result_at r y₁ → cond b x y ≡ result_at r (cond b₁ x₁ y₁)
cond_result r b true x y x₁ y₁ e h k = rw e h
cond_result r b false x y x₁ y₁ e h k = rw e k

-- An entry of the rings, and the entry of the ring alone: the same core of the ring, the same age.
pub record Same (names : ℕ → Named) (r : Ring) (e e₁ : Entry) : Type 0 where
  pub core : Core
  pub names_it : names e.core ≡ named r (seat r core)
  pub one_names_it : names_one e₁.core ≡ named first_ring core
  pub age_is : e.age ≡ e₁.age

abbrev pub AllSame : (ℕ → Named) → Ring → List Entry → List Entry → Type 0
AllSame names r [] [] = Unit {0}
AllSame names r [] (e ∷ es) = ⊥
AllSame names r (e ∷ es) [] = ⊥
AllSame names r (e ∷ es) (e₁ ∷ es₁) = Same names r e e₁ × AllSame names r es es₁

-- A state of the rings, and that of the ring alone.
pub record Alike (r : Ring) (s s₁ : State) : Type 0 where
  pub trace_is : s.trace ≡ moved_all r s₁.trace
  pub queue_is : s.queue r ≡ seated r (s₁.queue first_ring)
  pub halted_is : s.halted ≡ s₁.halted

module _ (p : Ring → Part) (names : ℕ → Named) (r : Ring) where
  abbrev g : Shape
  g = machine_of p names

  abbrev g₁ : Shape
  g₁ = machine_of (λ q. p r) names_one

  decided_at : (c : Core) (q : Queue) (t : Trace) → Here t → (w : Plan) → PlanFits t c first_ring w
      → decided g.orders r (seat r c) (seated r q) (moved_all r t) (plan_at r w) ≡ result_at r (decided g₁.orders first_ring c q t w)
  decided_at c q t h (refuse n) f = refl
  decided_at c q t h (perform n a z) f = refl
  decided_at c q t h (unless_hidden x s n z) f =
      cond_result r _ (out_of_reach g₁.orders t c x s) _ _ (refused first_ring q store_hidden) (performed first_ring n (load c x s) z)
      (reach_moved r g.orders g₁.orders (agree p names names_one r) c x s (rw f.0) t h) refl refl
  decided_at c q t h (unless_race x a n z) f =
      let k = know_moved r g.orders g₁.orders (agree p names names_one r) c t h in
      let i : rival (moved_all r t) (seat r c) (place r x) (is_store (moved r a)) ≡ rival t c x (is_store a) =
      ap (rival (moved_all r t) (seat r c) (place r x)) (moved-is_store r a) ∙ rival_moved r c x (is_store a) (rw f.1) t h in
      cond_result r _ (ltb (know g₁.orders t c) (rival t c x (is_store a))) _ _ (raced first_ring a q (rival t c x (is_store a))) (performed first_ring n a z)
      (λ j. ltb (k j) (i j)) (λ j. raced r (moved r a) (seated r q) (i j)) refl

  entered_same : (s s₁ : State) → Alike r s s₁ → Here s₁.trace → (c : Core) (age : ℕ) (h : Bool)
      → entered g s age (named r (seat r c)) h ≡ result_at r (entered g₁ s₁ age (named first_ring c) h)
  entered_same s s₁ a here c age true = ap (λ q. refused r q is_halted) a.queue_is
  entered_same s s₁ a here c age false =
      let q = s₁.queue first_ring in
      let t = s₁.trace in
      (λ i. decided g.orders r (seat r c) (a.queue_is i) (a.trace_is i) (plan g r (seat r c) (a.queue_is i) (a.trace_is i) age))
      ∙ ap (decided g.orders r (seat r c) (seated r q) (moved_all r t)) (plan_is p names names_one r c q t here age)
      ∙ decided_at c q t here (plan g₁ first_ring c q t age) (plan_fits g₁ first_ring c q t age)

  -- ONE ENTRY: the same result.
  step_same : (s s₁ : State) → Alike r s s₁ → Here s₁.trace → (e e₁ : Entry) → Same names r e e₁ → step g s e ≡ result_at r (step g₁ s₁ e₁)
  step_same s s₁ a here e e₁ k =
      (λ i. entered g s (k.age_is i) (k.names_it i) (a.halted_is i)) ∙ entered_same s s₁ a here k.core e₁.age s₁.halted
      ∙ ap (λ w. result_at r (entered g₁ s₁ e₁.age w s₁.halted)) (sym k.one_names_it)

  after_same : (s s₁ : State) → Alike r s s₁ → (x x₁ : Result) → x ≡ result_at r x₁ → x₁.ring ≡ first_ring → Alike r (after s x) (after s₁ x₁)
  after_same s s₁ a x x₁ e f = record {
    trace_is = λ i. (e i).did ∷ a.trace_is i;
    queue_is = (λ i. with_queue s.queue (e i).ring (e i).queue r) ∙ with_here s.queue r (seated r x₁.queue)
        ∙ ap (seated r) (sym (ap (λ b. with_queue s₁.queue b x₁.queue first_ring) f));
    halted_is = λ i. a.halted_is i || eqb (e i).mark race_found;
  }

  -- What an entry of the ring alone leaves.
  one_step : (s₁ : State) (e₁ : Entry) → Formed s₁.trace → ((step g₁ s₁ e₁).ring ≡ first_ring) × ActIn first_ring (step g₁ s₁ e₁).did
  one_step s₁ e₁ f =
      let k = step-at g₁ s₁ e₁ (step g₁ s₁ e₁) (step_allowed g₁ s₁ e₁ f) in
      (k.0 ∙ one_ring e₁.core, rw (one_ring e₁.core) at k.1)

  -- A RUN: the same results, and the same end at the ring.
  pub run_same : (s s₁ : State) → Alike r s s₁ → Formed s₁.trace → Here s₁.trace → (es es₁ : List Entry) → AllSame names r es es₁
      → (results g s es ≡ map (result_at r) (results g₁ s₁ es₁)) × Alike r (ends g s es) (ends g₁ s₁ es₁) × Here (ends g₁ s₁ es₁).trace
  run_same s s₁ a f here [] [] k = (refl, a, here)
  run_same s s₁ a f here [] (e₁ ∷ es₁) k = elim k [ ]
  run_same s s₁ a f here (e ∷ es) [] k = elim k [ ]
  run_same s s₁ a f here (e ∷ es) (e₁ ∷ es₁) k =
      let x : Result = step g s e in
      let x₁ : Result = step g₁ s₁ e₁ in
      let same : x ≡ result_at r x₁ = step_same s s₁ a here e e₁ k.0 in
      let one = one_step s₁ e₁ f in
      let next = after_same s s₁ a x x₁ same one.0 in
      let rest = run_same (after s x) (after s₁ x₁) next (step_fits g₁ s₁ e₁ x₁ (step_allowed g₁ s₁ e₁ f), f) (one.1, here) es es₁ k.1 in
      ((λ i. same i ∷ rest.0 i), rest.1, rest.2)

  -- The fresh machines.
  pub fresh_same : Alike r (fresh_of p) (fresh_of (λ q. p r))
  fresh_same = record {
    trace_is = refl;
    queue_is = λ i. record {
      side = λ d. fresh_side (cond (sides d i) (p r).push_sizes (p r).pop_sizes);
      slots = (fresh_queue r (p r)).slots;
      feed = (p r).push_bytes;
      out = [];
    };
    halted_is = refl;
  }
    where
      sides : (d : Core) → pushes r d ≡ pushes first_ring (seat r d)
      sides d = sym (ap (pushes r) (seat_twice r d)) ∙ seat_pushes r (seat r d)

-- One result: any two outcomes that the definition allows are equal, for every file and all buffers.
use mathlib.Core.Path.{◌≡◌, refl, sym, ◌∙◌}
use mathlib.Core.Logic.{inl, inr}
use mathlib.Core.Bool.{Bool, true, false}
use mathlib.Core.List.{List}
use Prim.Native.Nat.{ℕ}
use native.Mathlib.Omega.{arith}
use native.Mathlib.Decide.{dec_le}
use Rattle.order.specs.Trace.{Core, Ring, Place, Act, Trace}
use Rattle.order.specs.Order.{Orders}
use Rattle.order.specs.Race.{Race}
use Rattle.model.specs.File.{Entry}
use Rattle.model.specs.Queue.{Named, nobody, named, Shape, Queue}
use Rattle.model.specs.Plan.{Plan, refuse, perform, unless_hidden, unless_race, plan}
use Rattle.model.specs.Run.{Result, Does, State, Entered, Step, Runs, stop, move}
use Rattle.model.specs.Outcome.{Ran, Outcome}

-- The latest partner is one.
race_one : (o : Orders) (t : Trace) (c : Core) (p : Place) (a : Act) (i j : ℕ) → Race o t c p a i → Race o t c p a j → i ≡ j
race_one o t c p a i j h k = omega (arith, h.latest j k.races, k.latest i h.races)

does_one : (o : Orders) (r : Ring) (c : Core) (q : Queue) (t : Trace) (p : Plan) (x y : Result) → Does o r c q t p x → Does o r c q t p y → x ≡ y
does_one o r c q t (refuse n) x y a b = cc
does_one o r c q t (perform n w z) x y a b = cc
does_one o r c q t (unless_hidden p s n z) x y (inl a) (inl b) = cc
does_one o r c q t (unless_hidden p s n z) x y (inl a) (inr b) = absurd (b.0 a.0)
does_one o r c q t (unless_hidden p s n z) x y (inr a) (inl b) = absurd (a.0 b.0)
does_one o r c q t (unless_hidden p s n z) x y (inr a) (inr b) = cc
does_one o r c q t (unless_race p w n z) x y (inl a) (inl b) = cc (race_one o t c p w a.0 b.0 a.1 b.1)
does_one o r c q t (unless_race p w n z) x y (inl a) (inr b) = absurd (b.0 a.0 a.1.races)
does_one o r c q t (unless_race p w n z) x y (inr a) (inl b) = absurd (a.0 b.0 b.1.races)
does_one o r c q t (unless_race p w n z) x y (inr a) (inr b) = cc

entered_one : (g : Shape) (s : State) (age : ℕ) (c : Named) (h : Bool) (x y : Result) → Entered g s age c h x → Entered g s age c h y → x ≡ y
entered_one g s age nobody h x y a b = cc
entered_one g s age (named r c) true x y a b = cc
entered_one g s age (named r c) false x y a b =
    does_one g.orders r c (s.queue r) s.trace (plan g r c (s.queue r) s.trace age) x y a b

pub step_one : (g : Shape) (s : State) (e : Entry) (x y : Result) → Step g s e x → Step g s e y → x ≡ y
step_one g s e = entered_one g s e.age (g.names e.core) s.halted

pub run_one : {g : Shape} {s z z' : State} {es : List Entry} {xs ys : List Result} → Runs g s es xs z → Runs g s es ys z' → (xs ≡ ys) × (z ≡ z')
run_one stop stop = (refl, refl)
run_one {g} (move {s = s} {e = e} {x = x} a p) (move {x = y} b q) =
    let h : y ≡ x = step_one g s e y x b a in
    let k = run_one p (rw h at q) in
    (cc, k.1)

ran_one : {f marks out report m₁ o₁ r₁ m₂ o₂ r₂ : List ℕ} → Ran f marks out report m₁ o₁ r₁ → Ran f marks out report m₂ o₂ r₂
    → (m₁ ≡ m₂) × (o₁ ≡ o₂) × (r₁ ≡ r₂)
ran_one a b = let h = run_one a.run b.run in
    (a.marks_are ∙ rw h.0 (sym b.marks_are), a.out_is ∙ rw h.1 (sym b.out_is), a.report_is ∙ rw (h.0, h.1) (sym b.report_is))

-- ONE RESULT: the code and all three buffers.
pub one_result : {f marks out report m₁ o₁ r₁ m₂ o₂ r₂ : List ℕ} {c₁ c₂ : ℕ}
    → Outcome f marks out report c₁ m₁ o₁ r₁ → Outcome f marks out report c₂ m₂ o₂ r₂
    → (c₁ ≡ c₂) × (m₁ ≡ m₂) × (o₁ ≡ o₂) × (r₁ ≡ r₂)
one_result {c₁ = c₁} {c₂ = c₂} a b =
    let same : c₁ ≡ c₂ = a.code_is ∙ sym b.code_is in
    elim (dec_le c₁ 0) [
      | yes z ↦ let h = ran_one (a.lawful (omega arith)) (b.lawful (omega arith)) in (same, h.0, h.1, h.2)
      | no z ↦ (
        same,
        a.marks_stay (λ e. omega arith) ∙ sym (b.marks_stay (λ e. omega arith)),
        a.out_stays (λ e. omega arith) ∙ sym (b.out_stays (λ e. omega arith)),
        a.report_stays (λ e. omega arith) ∙ sym (b.report_stays (λ e. omega arith)),
      )
    ]

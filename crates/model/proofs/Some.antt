-- Some result: the computed machine gives one that the definition allows, for every file and all buffers.
use mathlib.Core.Path.{refl}
use mathlib.Core.Logic.{inl, inr}
use mathlib.Core.Bool.{Bool, true, false}
use mathlib.Core.List.{List, [], ◌∷◌, ◌++◌}
use Prim.Native.Nat.{ℕ}
use native.Mathlib.Omega.{arith}
use native.Mathlib.Decide.{dec_le}
use lib.Dec.{ltb}
use lib.ListN.{length, drop}
use borrow.Author.Tests.{ltb-true, ltb-false}
use Rattle.order.specs.Trace.{Core, other, Ring, index, slot, Act, load, Trace, is_store}
use Rattle.order.specs.Order.{Orders}
use Rattle.order.specs.computed.Record.{know, out_of_reach, rival}
use Rattle.order.proofs.Trace.{clash, cond_elim, StoreOf}
use Rattle.order.proofs.Chain.{Fits, Formed}
use Rattle.order.proofs.Record.{AccessOf}
use Rattle.order.proofs.Decided.{reach_decided, race_decided, calm_decided}
use Rattle.model.specs.Limits.{report_bytes}
use Rattle.model.specs.File.{Entry, schedule_of}
use Rattle.model.specs.Codes.{code_of}
use Rattle.model.specs.Marks.{store_hidden}
use Rattle.model.specs.Queue.{Named, nobody, named, Shape, Queue}
use Rattle.model.specs.Plan.{Plan, refuse, perform, unless_hidden, unless_race, plan}
use Rattle.model.specs.Run.{refused, performed, raced, Does, State, after, first_ring, Entered, Step, Runs, stop, move, shape_of, fresh}
use Rattle.model.specs.Report.{numbers_of, bytes_of}
use Rattle.model.specs.Outcome.{marks_of, Outcome}
use Rattle.model.specs.computed.Machine.{decided, entered, step, results, ends}
use Rattle.model.proofs.Formed.{PlanFits, plan_fits, step_fits}

module _ (o : Orders) (r : Ring) (c : Core) (q : Queue) (t : Trace) (f : Formed t) where
  of_load : (s n : ℕ) (z : Queue) → StoreOf t (index r (other c)) s
      → Does o r c q t (unless_hidden (index r (other c)) s n z) (decided o r c q t (unless_hidden (index r (other c)) s n z))
  of_load s n z st =
      cond_elim (Does o r c q t (unless_hidden (index r (other c)) s n z)) (out_of_reach o t c (index r (other c)) s)
      (refused r q store_hidden) (performed r n (load c (index r (other c)) s) z)
      (λ e. inl ((reach_decided o t f c r s st).0 e, refl))
      (λ e. inr ((λ h. let k = (reach_decided o t f c r s st).1 h in clash (cc)), refl))

  of_race : (y : ℕ) (a : Act) (n : ℕ) (z : Queue) → AccessOf a c r y → Fits t a
      → Does o r c q t (unless_race (slot r y) a n z) (decided o r c q t (unless_race (slot r y) a n z))
  of_race y a n z m g =
      cond_elim (Does o r c q t (unless_race (slot r y) a n z)) (ltb (know o t c) (rival t c (slot r y) (is_store a)))
      (raced r a q (rival t c (slot r y) (is_store a))) (performed r n a z)
      (λ e. inl (
        rival t c (slot r y) (is_store a),
        race_decided o t c r y a (g, f) m (ltb-true (know o t c) (rival t c (slot r y) (is_store a)) e),
        refl,
      ))
      (λ e. inr (calm_decided o t c r y a (g, f) m (ltb-false (know o t c) (rival t c (slot r y) (is_store a)) e), refl))

  does_decided : (p : Plan) → PlanFits t c r p → Does o r c q t p (decided o r c q t p)
  does_decided (refuse n) h = refl
  does_decided (perform n a z) h = refl
  does_decided (unless_hidden x s n z) h =
      let st : StoreOf t (index r (other c)) s = rw h.0 at h.1 in
      rw h.0 (of_load s n z st)
  does_decided (unless_race x a n z) h = rw h.1 (of_race h.0 a n z h.2 h.3)

entered_allowed : (g : Shape) (s : State) (age : ℕ) (c : Named) (h : Bool) → Formed s.trace → Entered g s age c h (entered g s age c h)
entered_allowed g s age nobody h f = refl
entered_allowed g s age (named r c) true f = refl
entered_allowed g s age (named r c) false f =
    does_decided g.orders r c (s.queue r) s.trace f (plan g r c (s.queue r) s.trace age)
    (plan_fits g r c (s.queue r) s.trace age)

pub step_allowed : (g : Shape) (s : State) (e : Entry) → Formed s.trace → Step g s e (step g s e)
step_allowed g s e f = entered_allowed g s e.age (g.names e.core) s.halted f

-- The computed run is one that the definition allows.
pub some_run : (g : Shape) (s : State) (es : List Entry) → Formed s.trace → Runs g s es (results g s es) (ends g s es)
some_run g s [] f = stop
some_run g s (e ∷ es) f =
    let h = step_allowed g s e f in
    move h (some_run g (after s (step g s e)) es (step_fits g s e (step g s e) h, f))

-- SOME RESULT: every call has an outcome.
pub some_result : (f marks out report : List ℕ) → (r : ℕ) × (marks' out' report' : List ℕ) × Outcome f marks out report r marks' out' report'
some_result f marks out report =
    let code = code_of f (length marks) (length out) (length report) in
    let xs = results (shape_of f) (fresh f) (schedule_of f) in
    let z = ends (shape_of f) (fresh f) (schedule_of f) in
    elim (dec_le code 0) [
      | yes h ↦ (
        code,
        marks_of xs ++ drop (length xs) marks,
        (z.queue first_ring).out ++ drop (length (z.queue first_ring).out) out,
        bytes_of (numbers_of f xs z) ++ drop report_bytes report,
        record {
          code_is = refl;
          lawful = λ e. record { results = xs; end = z; run = some_run (shape_of f) (fresh f) (schedule_of f) tt; marks_are = refl; out_is = refl; report_is = refl };
          marks_stay = λ n. absurd (n (omega arith));
          out_stays = λ n. absurd (n (omega arith));
          report_stays = λ n. absurd (n (omega arith));
        },
      )
      | no h ↦ (
        code,
        marks,
        out,
        report,
        record {
          code_is = refl;
          lawful = λ e. absurd (omega arith);
          marks_stay = λ n. refl;
          out_stays = λ n. refl;
          report_stays = λ n. refl;
        },
      )
    ]

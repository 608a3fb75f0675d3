-- The machine that computes: the same plan, with the two memory questions answered by the record. Not needed to believe any promise.
use Rattle.std.specs.Prelude.{Bool, true, false, cond, List, [], ◌∷◌, ℕ, ltb}
use Rattle.order.specs.Trace.{Core, Ring, load, Trace, is_store}
use Rattle.order.specs.Order.{Orders}
use Rattle.order.specs.computed.Record.{know, out_of_reach, rival}
use Rattle.model.specs.File.{Entry}
use Rattle.model.specs.Marks.{no_such_core, is_halted, store_hidden}
use Rattle.model.specs.Queue.{Named, nobody, named, Shape, Queue}
use Rattle.model.specs.Plan.{Plan, refuse, perform, unless_hidden, unless_race, plan}
use Rattle.model.specs.Run.{Result, refused, performed, raced, State, after, first_ring}

abbrev pub decided : Orders → Ring → Core → Queue → Trace → Plan → Result
decided o r c q t (refuse n) = refused r q n
decided o r c q t (perform n a z) = performed r n a z
decided o r c q t (unless_hidden x s n z) = cond (out_of_reach o t c x s) (refused r q store_hidden) (performed r n (load c x s) z)
decided o r c q t (unless_race x a n z) =
    cond (ltb (know o t c) (rival t c x (is_store a))) (raced r a q (rival t c x (is_store a))) (performed r n a z)

abbrev pub entered : Shape → State → ℕ → Named → Bool → Result
entered g s age nobody h = refused first_ring (s.queue first_ring) no_such_core
entered g s age (named r c) true = refused r (s.queue r) is_halted
entered g s age (named r c) false = decided g.orders r c (s.queue r) s.trace (plan g r c (s.queue r) s.trace age)

abbrev pub step : Shape → State → Entry → Result
step g s e = entered g s e.age (g.names e.core) s.halted

abbrev pub results : Shape → State → List Entry → List Result
results g s [] = []
results g s (e ∷ es) = let x = step g s e in x ∷ results g (after s x) es

abbrev pub ends : Shape → State → List Entry → State
ends g s [] = s
ends g s (e ∷ es) = ends g (after s (step g s e)) es

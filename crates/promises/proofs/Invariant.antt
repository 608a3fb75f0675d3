-- The invariant of a ring: both cores' halves and the bytes between them; and what leaves it as it is.
use mathlib.Core.Path.{◌≡◌, refl}
use mathlib.Core.Logic.{inl, inr}
use mathlib.Core.Bool.{true, false}
use mathlib.Core.List.{List, ◌∷◌, ◌++◌}
use Prim.Native.Nat.{ℕ}
use native.Mathlib.Nat.{add-zero}
use lib.Dec.{eqb}
use Rattle.order.specs.Trace.{Core, core0, core1, other, same_core, Ring, index, Act, load, store, Trace}
use Rattle.order.proofs.Trace.{and_false, same_other}
use Rattle.order.proofs.Chain.{Formed}
use Rattle.order.proofs.Record.{AccessOf}
use Rattle.model.specs.Queue.{Shape, Side, Queue, with_side, pushes}
use Rattle.promises.proofs.Count.{counts, made}
use Rattle.promises.proofs.Log.{Quiet}
use Rattle.promises.proofs.Half.{Half}
use Rattle.promises.proofs.Flow.{Flow}

-- All bytes that a core has moved, in completed batches and in the present one.
abbrev pub all_moved : Side → List ℕ
all_moved me = me.completed ++ me.moved

-- The bytes that flow: what the producer has moved in, what is in the slots, what the consumer has moved out.
abbrev pub FlowOf : Shape → Ring → Trace → Queue → Type 0
FlowOf g r t q = (c : Core) → pushes r c ≡ true
    → Flow (g.size r) (made t c r) (made t (other c) r) q.slots (all_moved (q.side c)) q.out × (q.out ≡ all_moved (q.side (other c)))

-- THE INVARIANT of ring r: the trace, the two halves, the flow.
pub record Invariant (g : Shape) (r : Ring) (t : Trace) (q : Queue) : Type 0 where
  pub formed : Formed t
  pub half : (c : Core) → Half g t c r (q.side c)
  pub flow : FlowOf g r t q

-- A change of one side.
pub both : (P : Core → Side → Type 0) (f : Core → Side) (c : Core) (s : Side) → P c s → P (other c) (f (other c)) → (d : Core) → P d (with_side f c s d)
both P f core0 s a b core0 = a
both P f core0 s a b core1 = b
both P f core1 s a b core0 = b
both P f core1 s a b core1 = a

pub each : (P : Core → Type 0) (c : Core) → P c → P (other c) → (d : Core) → P d
each P core0 a b core0 = a
each P core0 a b core1 = b
each P core1 a b core0 = b
each P core1 a b core1 = a

-- Quiet actions
pub quiet_load : (d c e : Core) (r : Ring) (s : ℕ) → Quiet d r (load c (index r e) s)
quiet_load d c e r s = (and_false (same_core d c), refl)

pub quiet_store : (c : Core) (r : Ring) (v : ℕ) → Quiet (other c) r (store c (index r c) v)
quiet_store c r v = (and_false (same_core (other c) c), rw (same_other c) (and_false (eqb r r)))

pub quiet_access : (c : Core) (r : Ring) (y : ℕ) (a : Act) → AccessOf a c r y → Quiet (other c) r a
quiet_access c r y a (inl e) = (rw (e.1, same_other c), rw e.1)
quiet_access c r y a (inr e) = (rw (e.1, same_other c), rw e.1)

pub flow_quiet : (g : Shape) (r : Ring) (t : Trace) (a : Act) (q z : Queue) → ((d : Core) → counts d r a ≡ false)
    → z.slots ≡ q.slots → z.out ≡ q.out → ((d : Core) → all_moved (z.side d) ≡ all_moved (q.side d)) → FlowOf g r t q → FlowOf g r (a ∷ t) z
flow_quiet g r t a q z n es eo em f c e = rw (n c, n (other c), es, eo, em c, em (other c)) (simp add-zero (f c e))

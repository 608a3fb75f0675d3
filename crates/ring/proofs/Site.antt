-- A ring of a machine, and the machine as that ring sees it: what the laws of one ring are stated over, be it the ring of a run file or one of two.
use mathlib.Core.Path.{◌≡◌, refl, ap, ◌∙◌}
use mathlib.Core.Bool.{Bool, true, false, cond, ◌||◌}
use mathlib.Core.List.{List, ◌∷◌}
use Prim.Native.Nat.{ℕ, ◌<◌, ◌≤◌}
use native.Mathlib.Omega.{arith}
use lib.Dec.{eqb}
use lib.ListN.{get_or, length}
use borrow.Author.Tests.{eq-eqb, ne_eqb}
use Rattle.order.specs.Trace.{Core, other, same_core, Ring, Trace}
use Rattle.model.specs.File.{Part}
use Rattle.model.specs.Marks.{race_found, is_halted}
use Rattle.model.specs.Queue.{Named, named, Shape, Queue, pusher, pushes}
use Rattle.model.specs.Plan.{plan}
use Rattle.model.specs.Run.{Result, refused, State, after, machine_of}
use Rattle.model.specs.computed.Machine.{decided, entered, step}
use Rattle.ring.specs.declared.who.Who.{Who}
use Rattle.ring.specs.declared.who.Who.TheVariants.{Producer, Consumer}
use Rattle.ring.specs.computed.Who.{core_place}

-- What the file says of each ring, whom a core byte names, and which ring it is.
pub record Site : Type 0 where
  pub rings : Ring → Part
  pub names : (byte : ℕ) → Named
  pub ring : Ring

abbrev pub part : Site → Part
part u = u.rings u.ring

abbrev pub shape : Site → Shape
shape u = machine_of u.rings u.names

abbrev pub producer : Site → Core
producer u = pusher u.ring

abbrev pub consumer : Site → Core
consumer u = other (pusher u.ring)

-- A core as the code names it, and its place among the two of the ring's struct.
abbrev pub whom_of : (producer c : Core) → Who
whom_of p c = cond (same_core p c) Producer Consumer

abbrev pub whom : Site → Core → Who
whom u c = whom_of (producer u) c

abbrev pub seat_of : (producer c : Core) → ℕ
seat_of p c = core_place (whom_of p c)

abbrev pub seat : Site → Core → ℕ
seat u c = seat_of (producer u) c

abbrev pub sizes_of : Site → Core → List ℕ
sizes_of u c = cond (pushes u.ring c) (part u).push_sizes (part u).pop_sizes

-- What a lawful file says of a ring.
pub record Fit (u : Site) : Type 0 where
  pub some_slot : 1 ≤ (part u).size
  pub slots : (part u).size ≤ 128
  pub modulus_low : 2 ≤ (part u).modulus
  pub modulus_high : (part u).modulus ≤ 65536
  pub few : (c : Core) → length (sizes_of u c) ≤ 255
  pub small : (c : Core) (b : ℕ) → get_or (sizes_of u c) b 0 < 256
  pub bytes : (k : ℕ) → get_or (part u).push_bytes k 0 < 256

-- The machine as one ring sees it: the trace of all, that ring's queue, and whether the machine has halted.
pub record Local : Type 0 where
  pub trace : Trace
  pub queue : Queue
  pub halted : Bool

abbrev pub here : State → Ring → Local
here s r = record { trace = s.trace; queue = s.queue r; halted = s.halted }

-- After an entry of the ring.
abbrev pub onward : Local → Result → Local
onward st x = record { trace = x.did ∷ st.trace; queue = x.queue; halted = st.halted || eqb x.mark race_found }

abbrev pub entered_at : Site → Core → Local → (age : ℕ) → (halted : Bool) → Result
entered_at u c st age true = refused u.ring st.queue is_halted
entered_at u c st age false =
    decided (shape u).orders u.ring c st.queue st.trace (plan (shape u) u.ring c st.queue st.trace age)

-- What an entry of core c at the ring comes to.
abbrev pub step_at : Site → Core → Local → (age : ℕ) → Result
step_at u c st age = entered_at u c st age st.halted

-- THE STEP of an entry that names the ring, and the state after it as that ring sees it.
pub step_here : (u : Site) (s : State) (byte age : ℕ) (c : Core) → u.names byte ≡ named u.ring c
    → step (shape u) s (record { core = byte; age = age }) ≡ step_at u c (here s u.ring) age
step_here u s byte age c e = ap (λ (n : Named). entered (shape u) s age n s.halted) e ∙ go s.halted
  where
    go : (h : Bool) → entered (shape u) s age (named u.ring c) h ≡ entered_at u c (here s u.ring) age h
    go true = refl
    go false = refl

pub after_here : (s : State) (x : Result) (r : Ring) → x.ring ≡ r → here (after s x) r ≡ onward (here s r) x
after_here s x r e =
    ap (λ (b : Bool). record { trace = x.did ∷ s.trace; queue = cond b x.queue (s.queue r); halted = s.halted || eqb x.mark race_found }) (eq-eqb x.ring r e)

-- After an entry of another ring.
abbrev pub besides : Local → Result → Local
besides st x = record { trace = x.did ∷ st.trace; queue = st.queue; halted = st.halted || eqb x.mark race_found }

pub after_there : (s : State) (x : Result) (r : Ring) → ¬ (x.ring ≡ r) → here (after s x) r ≡ besides (here s r) x
after_there s x r n =
    ap (λ (b : Bool). record { trace = x.did ∷ s.trace; queue = cond b x.queue (s.queue r); halted = s.halted || eqb x.mark race_found }) (ne_eqb x.ring r n)

-- A core's seat.
pub seat_lt : (u : Site) (c : Core) → seat u c < 2
seat_lt u c = go (same_core (producer u) c)
  where
    go : (b : Bool) → core_place (cond b Producer Consumer) < 2
    go true = omega arith
    go false = omega arith

-- What an entry does, with the two memory questions answered by the run's actions, and a run over all entries of a schedule.
use Rattle.std.specs.Prelude.{◌≡◌, ◌⊎◌, Bool, true, false, cond, ◌||◌, List, [], ◌∷◌, ℕ, eqb, replicate}
use Rattle.order.specs.Trace.{Core, core0, core1, Ring, Act, idle, load, Trace}
use Rattle.order.specs.Order.{Orders}
use Rattle.order.specs.Reads.{Rule, OutOfReach}
use Rattle.order.specs.Race.{RacesWith, Race}
use Rattle.model.specs.File.{Entry, orders_of, Part, part_of}
use Rattle.model.specs.Marks.{race_found, no_such_core, is_halted, store_hidden}
use Rattle.model.specs.Queue.{Named, nobody, named, Shape, start, Side, Queue, with_queue, pushes}
use Rattle.model.specs.Plan.{Plan, refuse, perform, unless_hidden, unless_race, plan}

-- What an entry came to: the ring that it counts for, its mark, what it did, that ring's queue after it and, for a race, the entry that it
-- races with.
pub record Result : Type 0 where
  pub ring : Ring
  pub mark : ℕ
  pub did : Act
  pub queue : Queue
  pub partner : ℕ

abbrev pub refused : Ring → Queue → ℕ → Result
refused r q n = record { ring = r; mark = n; did = idle; queue = q; partner = 0 }

abbrev pub performed : Ring → ℕ → Act → Queue → Result
performed r n a after = record { ring = r; mark = n; did = a; queue = after; partner = 0 }

-- A racing access is an action of the run, and changes nothing in the queue.
abbrev pub raced : Ring → Act → Queue → ℕ → Result
raced r a q i = record { ring = r; mark = race_found; did = a; queue = q; partner = i }

-- Core c carries out its plan at ring r, on that ring's queue q, the trace so far being t, under a rule of reading. A store that the rule puts
-- out of reach is refused; an access that races does so with the latest access that it races with.
abbrev pub DoesUnder : Rule → Orders → Ring → Core → Queue → Trace → Plan → Result → Type 0
DoesUnder rule o r c q t (refuse n) x = x ≡ refused r q n
DoesUnder rule o r c q t (perform n a after) x = x ≡ performed r n a after
DoesUnder rule o r c q t (unless_hidden p s n after) x =
    (rule o t c p s × (x ≡ refused r q store_hidden)) ⊎ ((¬ rule o t c p s) × (x ≡ performed r n (load c p s) after))
DoesUnder rule o r c q t (unless_race p a n after) x =
    ((i : ℕ) × Race o t c p a i × (x ≡ raced r a q i)) ⊎ (((i : ℕ) → ¬ RacesWith o t c p a i) × (x ≡ performed r n a after))

-- The machine between two entries: one trace for all rings, and the queue of each. A race, in whichever ring, halts it.
pub record State : Type 0 where
  pub trace : Trace
  pub queue : Ring → Queue
  pub halted : Bool

abbrev pub after : State → Result → State
after s x = record {
  trace = x.did ∷ s.trace;
  queue = with_queue s.queue x.ring x.queue;
  halted = s.halted || eqb x.mark race_found;
}

-- The first ring, which is the one ring of a run file.
abbrev pub first_ring : Ring
first_ring = 0

-- An entry is refused where its core byte names nobody, and counts for the first ring then; else where the machine has halted; else the core
-- carries out its plan at the ring.
abbrev pub EnteredUnder : Rule → Shape → State → (age : ℕ) → Named → (halted : Bool) → Result → Type 0
EnteredUnder rule g s age nobody h x = x ≡ refused first_ring (s.queue first_ring) no_such_core
EnteredUnder rule g s age (named r c) true x = x ≡ refused r (s.queue r) is_halted
EnteredUnder rule g s age (named r c) false x =
    DoesUnder rule g.orders r c (s.queue r) s.trace (plan g r c (s.queue r) s.trace age) x

abbrev pub StepUnder : Rule → Shape → State → Entry → Result → Type 0
StepUnder rule g s e x = EnteredUnder rule g s e.age (g.names e.core) s.halted x

-- A run from state s over a schedule, with the result of each entry and the state at the end.
pub data RunsUnder (rule : Rule) (g : Shape) : State → List Entry → List Result → State → Type 0 where
  stop : {s : State} → RunsUnder rule g s [] [] s
  move : {s z : State} {e : Entry} {es : List Entry} {x : Result} {xs : List Result}
      → StepUnder rule g s e x → RunsUnder rule g (after s x) es xs z → RunsUnder rule g s (e ∷ es) (x ∷ xs) z

-- The machine has one rule of reading, of axiom 2 and coherence together: no store is read that is hidden or that the core has passed.
abbrev pub Does : Orders → Ring → Core → Queue → Trace → Plan → Result → Type 0
Does = DoesUnder OutOfReach

abbrev pub Entered : Shape → State → (age : ℕ) → Named → (halted : Bool) → Result → Type 0
Entered = EnteredUnder OutOfReach

abbrev pub Step : Shape → State → Entry → Result → Type 0
Step = StepUnder OutOfReach

abbrev pub Runs : Shape → State → List Entry → List Result → State → Type 0
Runs = RunsUnder OutOfReach

-- The machine of some rings, from what a file says of each and from whom its core bytes name.
abbrev pub machine_of : (Ring → Part) → (names : ℕ → Named) → Shape
machine_of p names = record { size = λ r. (p r).size; modulus = λ r. (p r).modulus; orders = orders_of (λ r. (p r).bits); names = names }

-- Its fresh state: indexes, cached indexes and slots 0, nothing done.
abbrev pub fresh_side : List ℕ → Side
fresh_side sizes = record { batches = sizes; phase = start; own = 0; cached = 0; moved = []; completed = [] }

abbrev pub fresh_queue : Ring → Part → Queue
fresh_queue r p = record {
  side = λ c. fresh_side (cond (pushes r c) p.push_sizes p.pop_sizes);
  slots = replicate p.size 0;
  feed = p.push_bytes;
  out = [];
}

abbrev pub fresh_of : (Ring → Part) → State
fresh_of p = record { trace = []; queue = λ r. fresh_queue r (p r); halted = false }

-- The core byte of a run file: 0 is the producer, 1 the consumer.
abbrev pub names_one : (byte : ℕ) → Named
names_one n = cond (eqb n 0) (named first_ring core0) (cond (eqb n 1) (named first_ring core1) nobody)

-- The machine of a run file, which has one ring, and its fresh state.
abbrev pub shape_of : List ℕ → Shape
shape_of f = machine_of (λ r. part_of f) names_one

abbrev pub fresh : List ℕ → State
fresh f = fresh_of (λ r. part_of f)

-- Only two answers matter: order bits with which back synchronises alike, and front alike, give the same outcome.
use mathlib.Core.Path.{◌≡◌, refl, sym, ap, ◌∙◌}
use mathlib.Core.Logic.{◌≢◌}
use mathlib.Core.Bool.{Bool, true, false, cond}
use mathlib.Core.Option.{Option, none, some}
use mathlib.Core.List.{List, [], ◌∷◌}
use Prim.Native.Nat.{ℕ, zero, suc, ◌+◌, ◌≤◌}
use native.Mathlib.Omega.{arith}
use native.Mathlib.Decide.{dec_le}
use lib.ListN.{length, get_elem?, replicate, length-set}
use lib.Seq.{set_out, get_or-set_same, get_or-set_other, drop-set-lt}
use borrow.Author.Tests.{le-ltb}
use Rattle.order.specs.Trace.{Core, core0, core1, other, Ring, Place, index, slot, Act, idle, load, store, Trace, stores}
use Rattle.order.specs.Order.{Orders}
use Rattle.order.specs.computed.Record.{syncs, learn, know}
use Rattle.order.proofs.Chain.{Formed}
use Rattle.model.specs.Limits.{most_order_bits, header_bytes}
use Rattle.model.specs.File.{byte_at, ring_size, modulus_of, order_bits, push_count, push_sizes, pop_sizes, sizes_end, push_bytes, schedule_at, Entry, schedule_of, orders_of, part_of}
use Rattle.model.specs.Codes.{file_table, buffer_table, table, code_of}
use Rattle.model.specs.Queue.{Named, nobody, named, Shape, Phase, start, reload, moving, Side, Queue, pushes}
use Rattle.model.specs.Plan.{Plan, refuse, perform, unless_hidden, unless_race, foreign_load_of, in_batch, of_batches, plan}
use Rattle.model.specs.Run.{Result, State, after, first_ring, names_one, Runs, shape_of, fresh_side, fresh}
use Rattle.model.specs.Report.{of_ring, missed, shortfalls_of, largest, largest_shortfall, report_of, numbers_of}
use Rattle.model.specs.Outcome.{Ran, Outcome}
use Rattle.model.specs.computed.Machine.{decided, entered, step, results, ends}
use Rattle.model.proofs.Some.{some_run}
use Rattle.model.proofs.One.{run_one, one_result}
use Rattle.promises.specs.Same.{back_syncs, front_syncs, with_bits, SameOutcome}

-- Orders with which the same loads take knowledge over.
abbrev Agree : Orders → Orders → Type 0
Agree o p = (c : Core) (x : Place) → syncs o c x ≡ syncs p c x

-- The two answers decide it.
bits_agree : (a b : ℕ) → back_syncs a ≡ back_syncs b → front_syncs a ≡ front_syncs b → Agree (orders_of (λ r. a)) (orders_of (λ r. b))
bits_agree a b back front c (slot r y) = refl
bits_agree a b back front core0 (index r core0) = refl
bits_agree a b back front core1 (index r core1) = refl
bits_agree a b back front core0 (index zero core1) = front
bits_agree a b back front core1 (index zero core0) = back
bits_agree a b back front core0 (index (suc r) core1) = back
bits_agree a b back front core1 (index (suc r) core0) = front

-- So the record is the same, and what it decides.
module _ (o p : Orders) (h : Agree o p) where
  learn_same : (c : Core) (a : Act) → learn o c a ≡ learn p c a
  learn_same c idle = refl
  learn_same c (load d x s) = rw (h c x)
  learn_same c (store d x v) = refl

  know_same : (t : Trace) (c : Core) → know o t c ≡ know p t c
  know_same [] c = refl
  know_same (a ∷ t) c = rw (know_same t c, learn_same c a)

  decided_same : (r : Ring) (c : Core) (q : Queue) (t : Trace) (w : Plan) → decided o r c q t w ≡ decided p r c q t w
  decided_same r c q t (refuse n) = refl
  decided_same r c q t (perform n a z) = refl
  decided_same r c q t (unless_hidden x s n z) = rw (know_same t c)
  decided_same r c q t (unless_race x a n z) = rw (know_same t c)

-- A machine of this size and modulus, with these orders.
abbrev of_orders : (m M : ℕ) → Orders → Shape
of_orders m M o = record { size = λ r. m; modulus = λ r. M; orders = o; names = names_one }

-- A plan is made without regard to the orders.
module _ (m M : ℕ) (o p : Orders) (r : Ring) where
  foreign_same : (c : Core) (q : Queue) (t : Trace) (n : ℕ) (rest : List ℕ) (s : Option ℕ)
      → foreign_load_of (of_orders m M o) r c q t n rest s ≡ foreign_load_of (of_orders m M p) r c q t n rest s
  foreign_same c q t n rest none = refl
  foreign_same c q t n rest (some s) = refl

  batch_same : (c : Core) (q : Queue) (t : Trace) (age n : ℕ) (rest : List ℕ) (w : Phase)
      → in_batch (of_orders m M o) r c q t age n rest w ≡ in_batch (of_orders m M p) r c q t age n rest w
  batch_same c q t age n rest start = refl
  batch_same c q t age n rest reload = foreign_same c q t n rest (get_elem? (stores t (index r (other c))) age)
  batch_same c q t age n rest (moving i) = refl

  batches_same : (c : Core) (q : Queue) (t : Trace) (age : ℕ) (ns : List ℕ)
      → of_batches (of_orders m M o) r c q t age ns ≡ of_batches (of_orders m M p) r c q t age ns
  batches_same c q t age [] = refl
  batches_same c q t age (n ∷ rest) = batch_same c q t age n rest (q.side c).phase

module _ (m M : ℕ) (o p : Orders) (h : Agree o p) where
  entered_same : (s : State) (age : ℕ) (c : Named) (b : Bool) → entered (of_orders m M o) s age c b ≡ entered (of_orders m M p) s age c b
  entered_same s age nobody b = refl
  entered_same s age (named r c) true = refl
  entered_same s age (named r c) false =
      decided_same o p h r c (s.queue r) s.trace (plan (of_orders m M o) r c (s.queue r) s.trace age)
      ∙ ap (decided p r c (s.queue r) s.trace) (batches_same m M o p r c (s.queue r) s.trace age ((s.queue r).side c).batches)

  step_same : (s : State) (e : Entry) → step (of_orders m M o) s e ≡ step (of_orders m M p) s e
  step_same s e = entered_same s e.age (names_one e.core) s.halted

  results_same : (s : State) (es : List Entry) → results (of_orders m M o) s es ≡ results (of_orders m M p) s es
  results_same s [] = refl
  results_same s (e ∷ es) =
      ap (λ x. x ∷ results (of_orders m M o) (after s x) es) (step_same s e)
      ∙ ap (λ xs. step (of_orders m M p) s e ∷ xs) (results_same (after s (step (of_orders m M p) s e)) es)

  ends_same : (s : State) (es : List Entry) → ends (of_orders m M o) s es ≡ ends (of_orders m M p) s es
  ends_same s [] = refl
  ends_same s (e ∷ es) = ap (λ x. ends (of_orders m M o) (after s x) es) (step_same s e) ∙ ends_same (after s (step (of_orders m M p) s e)) es

  -- The same runs are allowed.
  runs_same : (s z : State) (es : List Entry) (xs : List Result) → Formed s.trace → Runs (of_orders m M o) s es xs z → Runs (of_orders m M p) s es xs z
  runs_same s z es xs f r =
      let k = run_one r (some_run (of_orders m M o) s es f) in
      rw (k.0 ∙ results_same s es, k.1 ∙ ends_same s es) (some_run (of_orders m M p) s es f)

-- What a file says, apart from its order bits.
module _ (f : List ℕ) (n : ℕ) where
  -- Every byte but byte 5.
  byte_same : (k : ℕ) → k ≢ 5 → byte_at (with_bits f n) k ≡ byte_at f k
  byte_same k h = get_or-set_other f 5 k n 0 h

  size_same : ring_size (with_bits f n) ≡ ring_size f
  size_same = byte_same 0 (omega arith)

  modulus_same : modulus_of (with_bits f n) ≡ modulus_of f
  modulus_same = rw (byte_same 1 (omega arith), byte_same 2 (omega arith), byte_same 3 (omega arith), byte_same 4 (omega arith))

  pushes_same : push_sizes (with_bits f n) ≡ push_sizes f
  unfolding push_sizes
  pushes_same = rw (byte_same 6 (omega arith), drop-set-lt header_bytes f 5 n (omega arith))

  pops_same : pop_sizes (with_bits f n) ≡ pop_sizes f
  unfolding pop_sizes
  pops_same = rw (byte_same 6 (omega arith), byte_same 7 (omega arith), drop-set-lt (header_bytes + push_count f) f 5 n (omega arith))

  bytes_same : push_bytes (with_bits f n) ≡ push_bytes f
  unfolding push_bytes
  bytes_same = rw (pushes_same, byte_same 6 (omega arith), byte_same 7 (omega arith), drop-set-lt (sizes_end f) f 5 n (omega arith))

  at_same : schedule_at (with_bits f n) ≡ schedule_at f
  unfolding schedule_at
  at_same = rw (pushes_same, byte_same 6 (omega arith), byte_same 7 (omega arith))

  schedule_same : schedule_of (with_bits f n) ≡ schedule_of f
  unfolding schedule_of schedule_at
  schedule_same = rw (at_same, drop-set-lt (schedule_at f) f 5 n (omega arith))

  fresh_same : fresh (with_bits f n) ≡ fresh f
  fresh_same = λ i. record {
    trace = [];
    queue = λ r. record {
      side = λ c. fresh_side (cond (pushes r c) (pushes_same i) (pops_same i));
      slots = replicate (size_same i) 0;
      feed = bytes_same i;
      out = [];
    };
    halted = false;
  }

  -- What is missing does not depend on the orders.
  missed_same : (c : Core) (had : List ℕ) (me : Side) → missed (shape_of (with_bits f n)) first_ring c had me ≡ missed (shape_of f) first_ring c had me
  missed_same c [] me = refl
  missed_same c (k ∷ rest) me = rw (modulus_same, size_same)

  shortfalls_same : (c : Core) (q : Queue) (xs : List Result) → shortfalls_of (shape_of (with_bits f n)) first_ring c q xs ≡ shortfalls_of (shape_of f) first_ring c q xs
  shortfalls_same c q [] = refl
  shortfalls_same c q (x ∷ xs) = rw (shortfalls_same c x.queue xs, missed_same c (q.side c).batches (x.queue.side c))

  largest_same : (c : Core) (xs : List Result)
      → largest_shortfall (shape_of (with_bits f n)) first_ring (part_of (with_bits f n)) c xs ≡ largest_shortfall (shape_of f) first_ring (part_of f) c xs
  largest_same c xs =
      ap (λ (s : State). largest (shortfalls_of (shape_of (with_bits f n)) first_ring c (s.queue first_ring) xs)) fresh_same ∙ ap largest (shortfalls_same c ((fresh f).queue first_ring) xs)

  numbers_same : (xs : List Result) (z : State) → numbers_of (with_bits f n) xs z ≡ numbers_of f xs z
  unfolding report_of
  numbers_same xs z =
      let p = largest_same core0 (of_ring first_ring xs) in
      let c = largest_same core1 (of_ring first_ring xs) in
      rw (p, c, pushes_same, pops_same, modulus_same)

  code_same : order_bits (with_bits f n) ≤ most_order_bits → order_bits f ≤ most_order_bits → (a b c : ℕ) → code_of (with_bits f n) a b c ≡ code_of f a b c
  unfolding code_of table file_table buffer_table
  code_same g h a b c = rw (
    le-ltb most_order_bits (order_bits (with_bits f n)) g,
    le-ltb most_order_bits (order_bits f) h,
    length-set f 5 n,
    schedule_same,
    at_same,
    pops_same,
    modulus_same,
    size_same,
    byte_same 6 (omega arith),
    byte_same 7 (omega arith),
  )

  module _ (h : Agree (orders_of (λ r. order_bits f)) (orders_of (λ r. order_bits (with_bits f n)))) where
    run_same : (xs : List Result) (z : State) → Runs (shape_of f) (fresh f) (schedule_of f) xs z
        → Runs (shape_of (with_bits f n)) (fresh (with_bits f n)) (schedule_of (with_bits f n)) xs z
    run_same xs z r = rw (fresh_same, schedule_same, modulus_same, size_same)
        (runs_same (ring_size f) (modulus_of f) (orders_of (λ r. order_bits f)) (orders_of (λ r. order_bits (with_bits f n))) h (fresh f) z (schedule_of f) xs tt r)

    ran_same : {marks out report marks' out' report' : List ℕ}
        → Ran f marks out report marks' out' report' → Ran (with_bits f n) marks out report marks' out' report'
    ran_same a = record {
      results = a.results;
      end = a.end;
      run = run_same a.results a.end a.run;
      marks_are = a.marks_are;
      out_is = a.out_is;
      report_is = rw (numbers_same a.results a.end) a.report_is;
    }

-- What is an outcome with the one setting is one with the other.
allowed_too : (f : List ℕ) (n : ℕ) → order_bits f ≤ most_order_bits → n ≤ most_order_bits
    → back_syncs (order_bits f) ≡ back_syncs n → front_syncs (order_bits f) ≡ front_syncs n
    → (marks out report : List ℕ) (r : ℕ) (marks' out' report' : List ℕ)
    → Outcome f marks out report r marks' out' report' → Outcome (with_bits f n) marks out report r marks' out' report'
allowed_too f n small small' back front marks out report r marks' out' report' a = elim (dec_le 6 (length f)) [
  | no l ↦ rw (set_out f 5 n (omega arith)) a
  | yes l ↦ let e = get_or-set_same f 5 n 0 l in
      let h = bits_agree (order_bits f) (order_bits (with_bits f n)) (back ∙ ap back_syncs (sym e)) (front ∙ ap front_syncs (sym e)) in
      record {
        code_is = a.code_is ∙ sym (code_same f n (omega arith) small (length marks) (length out) (length report));
        lawful = λ z. ran_same f n h (a.lawful z);
        marks_stay = a.marks_stay;
        out_stays = a.out_stays;
        report_stays = a.report_stays;
      }
]

-- ONLY TWO ANSWERS MATTER.
pub same_answers_same_outcome : SameOutcome
same_answers_same_outcome f n small small' back front marks out report r₁ marks₁ out₁ report₁ r₂ marks₂ out₂ report₂ a b =
    one_result (allowed_too f n small small' back front marks out report r₁ marks₁ out₁ report₁ a) b

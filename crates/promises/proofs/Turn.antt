-- One turn of a core, as far as a race to come needs it: where the core stands afterwards, and what is on the trace.
use mathlib.Core.Path.{◌≡◌, refl, sym, ap, ◌∙◌, subst}
use mathlib.Core.Bool.{Bool, true, false, cond}
use mathlib.Core.List.{List, [], ◌∷◌, ◌++◌}
use Prim.Native.Nat.{ℕ, suc, ◌+◌, ◌%◌, ◌≤◌, ◌<◌}
use native.Mathlib.Omega.{arith}
use lib.Dec.{eqb, ltb}
use lib.ListN.{get_elem?, get_or, set, drop}
use borrow.Author.Tests.{lt-ltb, le-ltb}
use Rattle.order.specs.Trace.{Core, core0, core1, other, Ring, Place, index, slot, Act, load, store, Trace, stores, latest, value_of, is_store}
use Rattle.order.specs.Order.{Orders}
use Rattle.order.specs.computed.Record.{know, rival}
use Rattle.order.proofs.Chain.{Formed}
use Rattle.order.proofs.Decided.{latest_decided}
use Rattle.model.specs.File.{Entry}
use Rattle.model.specs.Marks.{foreign_loaded, data_stored, data_loaded, race_found, store_hidden}
use Rattle.model.specs.Queue.{named, Shape, Phase, start, reload, moving, Side, Queue, with_queue, is_short}
use Rattle.model.specs.Plan.{Plan, unless_race, turned, own_load, foreign_load_of, fail_batch, keep_batch, data_store, data_load, data_access, slot_of, moved_on, index_store, in_batch, of_batches, plan}
use Rattle.model.specs.Run.{Result, refused, performed, State, after, first_ring}
use Rattle.model.specs.computed.Machine.{decided, entered, step, results}
use Rattle.model.proofs.Formed.{step_fits}
use Rattle.model.proofs.Some.{step_allowed}
use Rattle.model.proofs.Sides.{with_same, with_other}
use Rattle.model.proofs.Rings.{with_here}
use Rattle.model.proofs.OneRing.{race_from}
use Rattle.promises.specs.Weak.{producer, consumer}

-- The one ring's queue and the trace, the machine not halted. What the machine holds for other rings does not matter.
pub record Going : Type 0 where
  pub queue : Queue
  pub trace : Trace

abbrev pub going : Queue → Trace → Going
going q t = record { queue = q; trace = t }

abbrev pub running : (Ring → Queue) → Trace → State
running f t = record { trace = t; queue = f; halted = false }

-- Where a core stands: its batches, its phase, its own index and the cached one.
pub record Stands (me : Side) (l : List ℕ) (p : Phase) (own cached : ℕ) : Type 0 where
  pub batches_are : me.batches ≡ l
  pub phase_is : me.phase ≡ p
  pub own_is : me.own ≡ own
  pub cached_is : me.cached ≡ cached

-- Core c stands so in queue q', and the other core as it did in queue q.
pub record Turned (q q' : Queue) (c : Core) (l : List ℕ) (p : Phase) (own cached : ℕ) : Type 0 where
  pub mine : Stands (q'.side c) l p own cached
  pub theirs : q'.side (other c) ≡ q.side (other c)

pub kept : {a b : Side} {l : List ℕ} {p : Phase} {own cached : ℕ} → b ≡ a → Stands a l p own cached → Stands b l p own cached
kept {l = l} {p = p} {own = own} {cached = cached} e h = subst (λ (s : Side). Stands s l p own cached) (sym e) h

turned_so : (q : Queue) (c : Core) (me : Side) (feed : List ℕ) {l : List ℕ} {p : Phase} {own cached : ℕ} → Stands me l p own cached
    → Turned q (turned q c me feed) c l p own cached
turned_so q c me feed h = record { mine = kept (with_same q.side c me) h; theirs = with_other q.side c me }

wild_so : (k r : ℕ) (x y : Result) → k < r → x.mark ≡ race_found → (cond (ltb k r) x y).mark ≡ race_found
wild_so k r x y h e = rw (lt-ltb k r h) e

-- A data access: a byte more is moved.
moved_so : (q : Queue) (c : Core) (n : ℕ) (rest : List ℕ) (w k i byte : ℕ) (slots feed out : List ℕ) → Stands (q.side c) (n ∷ rest) (moving i) w k
    → Turned q (record { side = moved_on q c n rest i byte; slots = slots; feed = feed; out = out }) c (n ∷ rest) (moving (suc i)) w k
moved_so q c n rest w k i byte slots feed out h = record {
  mine = kept (with_same q.side c _) (record { batches_are = refl; phase_is = refl; own_is = h.own_is; cached_is = h.cached_is });
  theirs = with_other q.side c _;
}

-- The core byte of each core.
abbrev pub core_byte : Core → ℕ
core_byte core0 = producer
core_byte core1 = consumer

-- An entry of core c, with age 0.
abbrev pub entry : Core → Entry
entry c = record { core = core_byte c; age = 0 }

-- A run over these entries races, whatever the first of them is counted as; the trace before them is one that a machine makes.
abbrev Races : Shape → State → List Entry → Type 0
Races g s es = Formed s.trace → (n : ℕ) → 0 < n → ¬ (race_from n (results g s es) ≡ 0)

-- It does so wherever the core bytes are those of this ring.
abbrev pub Racy : Shape → Going → List Entry → Type 0
Racy g s es = ((c : Core) → g.names (entry c).core ≡ named first_ring c) → (f : Ring → Queue) → f first_ring ≡ s.queue → Races g (running f s.trace) es

first_or_later : (b : Bool) (n k : ℕ) → 0 < n → ¬ (k ≡ 0) → ¬ (cond b n k ≡ 0)
first_or_later true n k l h e = omega arith
first_or_later false n k l h e = h e

races_later : (g : Shape) (s : State) (e : Entry) (es : List Entry) → Races g (after s (step g s e)) es → Races g s (e ∷ es)
races_later g s e es h f n l =
    first_or_later (eqb (step g s e).mark race_found) n (race_from (suc n) (results g (after s (step g s e)) es)) l
    (h (step_fits g s e (step g s e) (step_allowed g s e f), f) (suc n) (omega arith))

races_now : (g : Shape) (s : State) (e : Entry) (es : List Entry) → (step g s e).mark ≡ race_found → Races g s (e ∷ es)
races_now g s e es h f n l = rw h (λ k. omega arith)

-- A core's turn
step_is : (g : Shape) → ((c : Core) → g.names (entry c).core ≡ named first_ring c) → (f : Ring → Queue) (q : Queue) → f first_ring ≡ q → (t : Trace) (c : Core)
    → step g (running f t) (entry c) ≡ decided g.orders first_ring c q t (plan g first_ring c q t 0)
step_is g nm f q e t c =
    ap (λ w. entered g (running f t) 0 w false) (nm c) ∙ ap (λ z. decided g.orders first_ring c z t (plan g first_ring c z t 0)) e

turn : (g : Shape) (q : Queue) (t : Trace) (c : Core) (es : List Entry) (p : Plan) (x : Result) → plan g first_ring c q t 0 ≡ p → decided g.orders first_ring c q t p ≡ x
    → x.ring ≡ first_ring → eqb x.mark race_found ≡ false → Racy g (going x.queue (x.did ∷ t)) es → Racy g (going q t) (entry c ∷ es)
turn g q t c es p x ep ex er k h nm f ef =
    let e : step g (running f t) (entry c) ≡ x = step_is g nm f q ef t c ∙ ap (decided g.orders first_ring c q t) ep ∙ ex in
    let z : Races g (running (with_queue f x.ring x.queue) (x.did ∷ t)) es =
    h nm (with_queue f x.ring x.queue) (ap (λ (p : Ring). with_queue f p x.queue first_ring) er ∙ with_here f first_ring x.queue) in
    races_later g (running f t) (entry c) es (subst (λ (y : Result). Races g (after (running f t) y) es) (sym e) (rw k z))

racy_now : (g : Shape) (q : Queue) (t : Trace) (c : Core) (es : List Entry) → (decided g.orders first_ring c q t (plan g first_ring c q t 0)).mark ≡ race_found
    → Racy g (going q t) (entry c ∷ es)
racy_now g q t c es h nm f ef = races_now g (running f t) (entry c) es (ap (λ (x : Result). x.mark) (step_is g nm f q ef t c) ∙ h)

module _ (g : Shape) (q : Queue) (t : Trace) (es : List Entry) (c : Core) (n : ℕ) (rest : List ℕ) (w k : ℕ) where
  of_phase : {p : Phase} → Stands (q.side c) (n ∷ rest) p w k → plan g first_ring c q t 0 ≡ in_batch g first_ring c q t 0 n rest p
  of_phase h = ap (of_batches g first_ring c q t 0) h.batches_are ∙ ap (in_batch g first_ring c q t 0 n rest) h.phase_is

  -- The load of the own index.
  pub own_turn : (s v : ℕ) (p : Phase) → Stands (q.side c) (n ∷ rest) start w k → latest t (index first_ring c) ≡ s → value_of t s ≡ v
      → cond (is_short g first_ring c n v k) reload (moving 0) ≡ p
      → ((q' : Queue) → Turned q q' c (n ∷ rest) p v k → Racy g (going q' (load c (index first_ring c) s ∷ t)) es)
      → Racy g (going q t) (entry c ∷ es)
  own_turn s v p h el ev ep next =
      let v₀ = value_of t (latest t (index first_ring c)) in
      let e₀ : v₀ ≡ v = ap (value_of t) el ∙ ev in
      let me : Side = record {
        batches = n ∷ rest;
        phase = cond (is_short g first_ring c n v₀ (q.side c).cached) reload (moving 0);
        own = v₀;
        cached = (q.side c).cached;
        moved = [];
        completed = (q.side c).completed;
      } in
      let ph : me.phase ≡ p =
      ap (λ z. cond (is_short g first_ring c n z (q.side c).cached) reload (moving 0)) e₀
      ∙ ap (λ z. cond (is_short g first_ring c n v z) reload (moving 0)) h.cached_is ∙ ep in
      turn g q t c es (own_load g first_ring c q t n rest) _ (of_phase h) refl refl refl (
      subst (λ z. Racy g (going (turned q c me q.feed) (load c (index first_ring c) z ∷ t)) es) (sym el) (next (turned q c me q.feed)
      (turned_so q c me q.feed (record { batches_are = refl; phase_is = ph; own_is = e₀; cached_is = h.cached_is }))))

  -- The load of the foreign index, from its newest store.
  pub foreign_turn : (s v : ℕ) → Stands (q.side c) (n ∷ rest) reload w k → stores t (index first_ring (other c)) ≡ s ∷ 0 ∷ [] → value_of t s ≡ v
      → is_short g first_ring c n w v ≡ false
      → ((q' : Queue) → Turned q q' c (n ∷ rest) (moving 0) w v → Racy g (going q' (load c (index first_ring (other c)) s ∷ t)) es)
      → Racy g (going q t) (entry c ∷ es)
  foreign_turn s v h el ev short next nm qs eq f =
      let me : Side = record { batches = n ∷ rest; phase = moving 0; own = (q.side c).own; cached = value_of t s; moved = []; completed = (q.side c).completed } in
      let ep : plan g first_ring c q t 0 ≡ keep_batch first_ring c q n rest s (value_of t s) =
      of_phase h ∙ ap (λ (l : List ℕ). foreign_load_of g first_ring c q t n rest (get_elem? l 0)) el
      ∙ ap (λ b. cond b (fail_batch first_ring c q n rest s (value_of t s)) (keep_batch first_ring c q n rest s (value_of t s)))
      (ap (λ z. is_short g first_ring c n z (value_of t s)) h.own_is ∙ ap (is_short g first_ring c n w) ev ∙ short) in
      let calm = latest_decided g.orders t f c first_ring s (ap (λ (l : List ℕ). get_or l 0 0) el) in
      turn g q t c es (keep_batch first_ring c q n rest s (value_of t s)) _ ep
      (ap (λ b. cond b (refused first_ring q store_hidden) (performed first_ring foreign_loaded (load c (index first_ring (other c)) s) (turned q c me q.feed))) calm) refl refl
      (next (turned q c me q.feed) (turned_so q c me q.feed (record { batches_are = refl; phase_is = refl; own_is = h.own_is; cached_is = ev }))) nm qs eq f

  -- The index store.
  pub index_turn : Stands (q.side c) (n ∷ rest) (moving n) w k
      → ((q' : Queue) → Turned q q' c rest start w k → Racy g (going q' (store c (index first_ring c) ((w + n) % g.modulus first_ring) ∷ t)) es)
      → Racy g (going q t) (entry c ∷ es)
  index_turn h next =
      let me : Side = record {
        batches = rest;
        phase = start;
        own = (q.side c).own;
        cached = (q.side c).cached;
        moved = [];
        completed = (q.side c).completed ++ (q.side c).moved;
      } in
      let ep : plan g first_ring c q t 0 ≡ index_store g first_ring c q n rest =
      of_phase h ∙ ap (λ b. cond b (data_access g first_ring c q t n rest n) (index_store g first_ring c q n rest)) (le-ltb n n (omega arith)) in
      turn g q t c es (index_store g first_ring c q n rest) _ ep refl refl refl (
      subst (λ z. Racy g (going (turned q c me q.feed) (store c (index first_ring c) ((z + n) % g.modulus first_ring) ∷ t)) es) (sym h.own_is)
      (next (turned q c me q.feed) (turned_so q c me q.feed (record { batches_are = refl; phase_is = refl; own_is = h.own_is; cached_is = h.cached_is }))))

-- An access in order is performed, and one that is not gets mark 7.
calm_so : (o : Orders) (c : Core) (q : Queue) (t : Trace) (x : Place) (a : Act) (n : ℕ) (z : Queue) → rival t c x (is_store a) ≤ know o t c
    → decided o first_ring c q t (unless_race x a n z) ≡ performed first_ring n a z
calm_so o c q t x a n z h = rw (le-ltb (know o t c) (rival t c x (is_store a)) h)

module _ (g : Shape) (q : Queue) (t : Trace) (es : List Entry) (n : ℕ) (rest : List ℕ) (w k i y : ℕ) (e : (w + i) % g.size first_ring ≡ y) (l : i < n) where
  to_store : Stands (q.side core0) (n ∷ rest) (moving i) w k → plan g first_ring core0 q t 0 ≡ data_store first_ring core0 q n rest i y
  to_store h =
      of_phase g q t es core0 n rest w k h
      ∙ ap (λ b. cond b (data_access g first_ring core0 q t n rest i) (index_store g first_ring core0 q n rest)) (lt-ltb i n l)
      ∙ ap (data_store first_ring core0 q n rest i) (ap (λ z. slot_of g first_ring z i) h.own_is ∙ e)

  to_load : Stands (q.side core1) (n ∷ rest) (moving i) w k → plan g first_ring core1 q t 0 ≡ data_load first_ring core1 q t n rest i y
  to_load h =
      of_phase g q t es core1 n rest w k h
      ∙ ap (λ b. cond b (data_access g first_ring core1 q t n rest i) (index_store g first_ring core1 q n rest)) (lt-ltb i n l)
      ∙ ap (data_load first_ring core1 q t n rest i) (ap (λ z. slot_of g first_ring z i) h.own_is ∙ e)

  -- A data store in order, and one that races.
  pub store_turn : Stands (q.side core0) (n ∷ rest) (moving i) w k → rival t core0 (slot first_ring y) true ≤ know g.orders t core0
      → ((q' : Queue) (byte : ℕ) → Turned q q' core0 (n ∷ rest) (moving (suc i)) w k → Racy g (going q' (store core0 (slot first_ring y) byte ∷ t)) es)
      → Racy g (going q t) (entry core0 ∷ es)
  store_turn h calm next =
      let byte = get_or q.feed 0 0 in
      let z : Queue = record { side = moved_on q core0 n rest i byte; slots = set q.slots y byte; feed = drop 1 q.feed; out = q.out } in
      turn g q t core0 es (data_store first_ring core0 q n rest i y) (performed first_ring data_stored (store core0 (slot first_ring y) byte) z) (to_store h)
      (calm_so g.orders core0 q t (slot first_ring y) (store core0 (slot first_ring y) byte) data_stored z calm) refl refl
      (next z byte (moved_so q core0 n rest w k i byte (set q.slots y byte) (drop 1 q.feed) q.out h))

  pub store_races : Stands (q.side core0) (n ∷ rest) (moving i) w k → know g.orders t core0 < rival t core0 (slot first_ring y) true
      → Racy g (going q t) (entry core0 ∷ es)
  store_races h wild =
      racy_now g q t core0 es (ap (λ p. (decided g.orders first_ring core0 q t p).mark) (to_store h) ∙ wild_so (know g.orders t core0) _ _ _ wild refl)

  -- A data load in order, and one that races.
  pub load_turn : Stands (q.side core1) (n ∷ rest) (moving i) w k → rival t core1 (slot first_ring y) false ≤ know g.orders t core1
      → ((q' : Queue) (s : ℕ) → Turned q q' core1 (n ∷ rest) (moving (suc i)) w k → Racy g (going q' (load core1 (slot first_ring y) s ∷ t)) es)
      → Racy g (going q t) (entry core1 ∷ es)
  load_turn h calm next =
      let byte = get_or q.slots y 0 in
      let a = load core1 (slot first_ring y) (latest t (slot first_ring y)) in
      let z : Queue = record { side = moved_on q core1 n rest i byte; slots = q.slots; feed = q.feed; out = q.out ++ (byte ∷ []) } in
      turn g q t core1 es (data_load first_ring core1 q t n rest i y) (performed first_ring data_loaded a z) (to_load h)
      (calm_so g.orders core1 q t (slot first_ring y) a data_loaded z calm) refl refl
      (next z (latest t (slot first_ring y)) (moved_so q core1 n rest w k i byte q.slots q.feed (q.out ++ (byte ∷ [])) h))

  pub load_races : Stands (q.side core1) (n ∷ rest) (moving i) w k → know g.orders t core1 < rival t core1 (slot first_ring y) false
      → Racy g (going q t) (entry core1 ∷ es)
  load_races h wild =
      racy_now g q t core1 es (ap (λ p. (decided g.orders first_ring core1 q t p).mark) (to_load h) ∙ wild_so (know g.orders t core1) _ _ _ wild refl)

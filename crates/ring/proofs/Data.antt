-- The data access of the code's machine is the definition's: it races, or one slot and one core change.
use mathlib.Core.Path.{◌≡◌, refl, ap, sym, ◌∙◌, subst}
use mathlib.Core.Bool.{Bool, true, false, cond}
use mathlib.Core.Option.{some}
use mathlib.Core.List.{List, [], ◌∷◌, ◌++◌, append-nil}
use Prim.Native.Nat.{ℕ, suc, ◌+◌, ◌%◌, ◌<◌}
use native.Mathlib.Omega.{arith}
use native.Mathlib.Nat.{mod-lt, mod-eq_of_lt}
use lib.Dec.{ltb, eqb}
use lib.ListN.{get_or, set, length, drop, length-append}
use lib.Seq.{set-get_or, drop-drop, get_or-drop}
use borrow.Author.Tests.{lt-ltb, le-leb, ne_eqb}
use Rattle.order.specs.Trace.{Core, core0, core1, other, same_core, index, slot, Act, load, store, Trace, next, who, stores_to, latest}
use Rattle.order.specs.computed.Record.{know, learn, reads, rival}
use Rattle.order.proofs.Trace.{and_false, other_other, same_self}
use Rattle.model.specs.Marks.{batch_failed, data_stored, data_loaded, race_found}
use Rattle.model.specs.Queue.{moving, Queue, pushes}
use Rattle.model.specs.Plan as pl
use Rattle.model.specs.Run.{Result, performed, raced}
use Rattle.model.specs.computed.Machine.{decided}
use Rattle.std.specs.Prelude.{Some}
use Rattle.ring.specs.declared.who.Who.TheVariants.{Producer, Consumer}
use Rattle.ring.specs.declared.marks.Performed.TheVariants.{DataStored, DataLoaded}
use Rattle.ring.specs.declared.state.Slot.{Slot}
use Rattle.ring.specs.declared.state.Core as rc
use Rattle.ring.specs.declared.state.Stores.{Stores}
use Rattle.ring.specs.declared.state.Ring.{Ring}
use Rattle.ring.specs.computed.Who.{chosen}
use Rattle.ring.specs.computed.Marks.{performed_mark, last_byte}
use Rattle.ring.specs.computed.State.{fresh_slot, fresh_core, core_at}
use Rattle.ring.specs.computed.Moves as mv
use Rattle.ring.proofs.Site.{Site, part, shape, producer, consumer, seat_of, whom, seat, sizes_of, Fit, Local, step_at}
use Rattle.ring.proofs.Parts.{batches_cons, progress, phase_after_move}
use Rattle.ring.proofs.Lists.{listed_old}
use Rattle.ring.proofs.Rep.{list_same, read_kept, CoreRep, Bytes, Lately, Rep, put_same, put_other}
use Rattle.ring.proofs.Cells.{bytes_stored, bytes_loaded, lately_stored, lately_loaded}
use Rattle.ring.proofs.Kept.{moved_kept, raced_kept}
use Rattle.ring.proofs.Join.{Joined, read_of, step_is}

-- The ring after a data access of slot y, by whether it races with entry i.
abbrev accessed : Site → Ring → Core → (y : ℕ) → Bool → (i byte entry : ℕ) → Ring
accessed u s c y b i byte entry = record {
  size = s.size;
  modulus = s.modulus;
  race = mv.race_with b entry i;
  orders = s.orders;
  last = Some (mv.access_did b (whom u c) ((get_or s.slots y fresh_slot).byte % 256));
  slots = set s.slots y (mv.accessed (get_or s.slots y fresh_slot) b (whom u c) byte entry);
  cores = set s.cores (seat u c) (mv.moved_on (core_at s (seat u c)) b);
  back = s.back;
  front = s.front;
}

-- An access of a slot by core c: it teaches nothing, and it stores and loads no index.
record IsAccess (u : Site) (c : Core) (a : Act) : Type 0 where
  acts : who a ≡ some c
  learns : learn (shape u).orders c a ≡ 0
  no_store : (e : Core) → stores_to (index u.ring e) a ≡ false
  no_read : reads c (index u.ring (other c)) a ≡ 0

-- Its mark, where it does not race, is neither a race's nor a failed batch's.
access_marks : (u : Site) (c : Core) (v : ℕ)
    → (performed_mark (mv.access_did false (whom u c) v) < race_found) × (eqb (performed_mark (mv.access_did false (whom u c) v)) batch_failed ≡ false)
unfolding mv.access_did
access_marks u c v = go (pushes u.ring c)
  where
    go : (b : Bool) → (performed_mark (chosen (cond b Producer Consumer) DataStored (DataLoaded v)) < race_found)
        × (eqb (performed_mark (chosen (cond b Producer Consumer) DataStored (DataLoaded v))) batch_failed ≡ false)
    go true = (omega arith, refl)
    go false = (omega arith, refl)

module _ {u : Site} (g : Fit u) {s : Ring} {st : Local} {xs : List Result} (r : Rep u s st xs) (h : st.halted ≡ false) (c : Core)
    (more : (core_at s (seat u c)).batch < length (sizes_of u c)) (i : ℕ) (ep : (st.queue.side c).phase ≡ moving i)
    (left : i < get_or (sizes_of u c) (core_at s (seat u c)).batch 0) where
  moved : (core_at s (seat u c)).moved ≡ i
  moved = (r.core_is c).moved_is ∙ ap progress ep

  sized : (core_at s (seat u c)).size ≡ get_or (sizes_of u c) (core_at s (seat u c)).batch 0
  sized = (rw ep at (r.core_is c).sized).1

  -- The slot, and that the ring has it.
  inside : pl.slot_of (shape u) u.ring (st.queue.side c).own i < (part u).size
  inside = mod-lt ((st.queue.side c).own + i) (omega (arith, g.some_slot))

  slot_is : pl.slot_of (shape u) u.ring (st.queue.side c).own i ≡ pl.slot_of (shape u) u.ring (st.queue.side c).own (core_at s (seat u c)).moved
  slot_is = ap (pl.slot_of (shape u) u.ring (st.queue.side c).own) (sym moved)

  -- The core with one byte more moved.
  moved_core : (a : Act) (byte : ℕ) → learn (shape u).orders c a ≡ 0
      → CoreRep u (a ∷ st.trace) c (mv.moved_on (core_at s (seat u c)) false) (record {
        batches = get_or (sizes_of u c) (core_at s (seat u c)).batch 0 ∷ drop ((core_at s (seat u c)).batch + 1) (sizes_of u c);
        phase = moving (suc i);
        own = (st.queue.side c).own;
        cached = (st.queue.side c).cached;
        moved = (st.queue.side c).moved ++ (byte ∷ []);
        completed = (st.queue.side c).completed;
      })
  unfolding mv.moved_on
  moved_core a byte learns =
      let d = r.core_is c in
      let up : (core_at s (seat u c)).moved + 1 ≡ suc i = omega (arith, moved) in
      record {
        phase_is = rw up (phase_after_move (suc i) (core_at s (seat u c)).size);
        moved_is = up;
        batches_are = sym (batches_cons (sizes_of u c) (core_at s (seat u c)).batch more);
        batch_le = d.batch_le;
        sized = (more, sized, omega (arith, left, sized));
        size_lt = d.size_lt;
        own_is = d.own_is;
        own_lt = d.own_lt;
        cached_is = d.cached_is;
        known_is = d.known_is ∙ omega (arith, learns);
        passed_is = d.passed_is;
        done_is = d.done_is;
        done_le = d.done_le;
        bytes_moved = length-append (st.queue.side c).moved (byte ∷ []) ∙ omega (arith, d.bytes_moved);
        failed_le = d.failed_le;
      }

  moved_facts : let d = mv.moved_on (core_at s (seat u c)) false in
      (d.batch ≡ (core_at s (seat u c)).batch) × (d.passed ≡ (core_at s (seat u c)).passed) × (d.moved ≡ (core_at s (seat u c)).moved + 1)
      × (d.done ≡ (core_at s (seat u c)).done) × (d.failed ≡ (core_at s (seat u c)).failed)
      × (d.largest ≡ (core_at s (seat u c)).largest) × (d.read ≡ (core_at s (seat u c)).read)
  unfolding mv.moved_on
  moved_facts = (refl, refl, refl, refl, refl, refl, refl)

  data_ring : (y i byte entry : ℕ) → y ≡ pl.slot_of (shape u) u.ring (st.queue.side c).own (core_at s (seat u c)).moved
      → i ≡ mv.rival_of (get_or s.slots y fresh_slot) (whom u c)
      → mv.data_access s (whom u c) byte entry ≡ accessed u s c y (ltb (know (shape u).orders st.trace c) i) i byte entry
  unfolding mv.data_access
  data_ring y i byte entry ey ei =
      let k : mv.slot_of (core_at s (seat u c)).own (core_at s (seat u c)).moved s.size ≡ y = slot_eq (core_at s (seat u c)).own (st.queue.side c).own (core_at s (seat u c)).moved s.size (r.core_is c).own_is r.size_is ∙ sym ey in
      cc (k, ei, (r.core_is c).known_is)
    where
      slot_eq : (own own' n m : ℕ) → own ≡ own' → m ≡ (part u).size → mv.slot_of own n m ≡ pl.slot_of (shape u) u.ring own' n
      slot_eq own own' n m p q = cc

  -- The definition's step is the access of that slot.
  access_step : step_at u c st 0 ≡ decided (shape u).orders u.ring c st.queue st.trace
      (pl.data_access (shape u) u.ring c st.queue st.trace (get_or (sizes_of u c) (core_at s (seat u c)).batch 0) (drop ((core_at s (seat u c)).batch + 1) (sizes_of u c)) i)
  access_step =
      let t : Trace = st.trace in
      let q : Queue = st.queue in
      let n : ℕ = get_or (sizes_of u c) (core_at s (seat u c)).batch 0 in
      let rest : List ℕ = drop ((core_at s (seat u c)).batch + 1) (sizes_of u c) in
      step_is u st c 0 h ∙ ap (decided (shape u).orders u.ring c q t)
      (ap (pl.of_batches (shape u) u.ring c q t 0) ((r.core_is c).batches_are ∙ batches_cons (sizes_of u c) (core_at s (seat u c)).batch more)
      ∙ ap (pl.in_batch (shape u) u.ring c q t 0 n rest) ep
      ∙ ap (λ (b : Bool). cond b (pl.data_access (shape u) u.ring c q t n rest i) (pl.index_store (shape u) u.ring c q n rest)) (lt-ltb i n left))

  -- The queue after an access that moved this byte and left these slots, this feed and this out.
  after_access : (byte : ℕ) (slots feed out : List ℕ) → Queue
  after_access byte slots feed out = record {
    side = pl.moved_on st.queue c (get_or (sizes_of u c) (core_at s (seat u c)).batch 0) (drop ((core_at s (seat u c)).batch + 1) (sizes_of u c)) i byte;
    slots = slots;
    feed = feed;
    out = out;
  }

  -- The ring after an access of slot y that does not race.
  abbrev unraced : (y k v : ℕ) → Ring
  unraced y k v = accessed u s c y false k v (next st.trace)

  -- Its mark.
  abbrev mark_at : (y : ℕ) → ℕ
  mark_at y = performed_mark (mv.access_did false (whom u c) ((get_or s.slots y fresh_slot).byte % 256))

  -- It does not race: one core moves on, and the slots, the feed and out are those after the access.
  moves_joined : (a : Act) (y k v byte : ℕ) (slots feed out : List ℕ) → IsAccess u c a
      → Bytes (part u).size (unraced y k v).slots slots → Lately u (a ∷ st.trace) (unraced y k v).slots
      → feed ≡ drop ((core_at (unraced y k v) (seat u (producer u))).passed + (core_at (unraced y k v) (seat u (producer u))).moved) (part u).push_bytes
      → length out ≡ (core_at (unraced y k v) (seat u (consumer u))).done + (core_at (unraced y k v) (seat u (consumer u))).moved
      → out ≡ st.queue.out ++ read_of (last_byte (unraced y k v).last)
      → Joined u (unraced y k v) st xs (performed u.ring (mark_at y) a (after_access byte slots feed out))
  unfolding after_access mv.race_with
  moves_joined a y k v byte slots feed out is bytes lately fed long reads-out =
      let z = moved_facts in
      let same = list_same u s (unraced y k v) refl refl in
      let m = access_marks u c ((get_or s.slots y fresh_slot).byte % 256) in
      record {
        rep = moved_kept r h (record {
          shape_same = (refl, refl, refl);
          unraced = refl;
          cores_are = refl;
          sides_are = refl;
          acts = is.acts;
          plain = m.0;
          core_new = moved_core a byte is.learns;
          lists_new = λ e. rw (same e) (listed_old a (is.no_store e) (r.list_is e));
          read_new = rw (same (other c), z.6) (read_kept a st.trace c (index u.ring (other c)) is.no_read (r.read_is c));
          still_read = λ p e w. rw (same c) w;
          few_new = rw (same c) (omega (arith, r.list_few c, z.0));
          few_other = ap (λ (l : Stores). l.count) (same (other c));
          bytes_new = bytes;
          lately_new = lately;
          feed_new = fed;
          out_new = long;
          failed_new = rw m.1 (omega (arith, z.4));
          largest_new = rw m.1 (omega (arith, z.5));
        });
        mark_is = refl;
        performs = le-leb (mark_at y) race_found (omega (arith, m.0));
        out_is = reads-out;
        race_is = sym (rw (ne_eqb (mark_at y) race_found (λ z. omega (arith, m.0))));
        of-ring = refl;
        running = h;
      }

  -- It races: nothing changes but the pair of entries and the mark. Or it does not, with result x.
  access_joined : (a : Act) (y k v : ℕ) (x : Result) → IsAccess u c a
      → Joined u (unraced y k v) st xs x
      → (b : Bool) → Joined u (accessed u s c y b k v (next st.trace)) st xs (cond b (raced u.ring a st.queue k) x)
  unfolding mv.race_with mv.access_did mv.accessed mv.moved_on
  access_joined a y k v x is j true = record {
    rep = raced_kept r h is.acts is.learns is.no_store is.no_read refl refl refl (set-get_or s.slots y fresh_slot) (set-get_or s.cores (seat u c) fresh_core) refl refl refl;
    mark_is = refl;
    performs = refl;
    out_is = sym (append-nil st.queue.out);
    race_is = refl;
    of-ring = refl;
    running = h;
  }
  access_joined a y k v x is j false = j

stores_slot : {u : Site} (c : Core) {y v : ℕ} → IsAccess u c (store c (slot u.ring y) v)
stores_slot c = record { acts = refl; learns = refl; no_store = λ e. refl; no_read = refl }

loads_slot : {u : Site} (c : Core) {y e : ℕ} → IsAccess u c (load c (slot u.ring y) e)
loads_slot c = record {
  acts = refl;
  learns = rw (and_false (same_core c c));
  no_store = λ e. refl;
  no_read = rw (and_false (same_core c c));
}

pub producer_seat : (u : Site) → seat u (producer u) ≡ 0
producer_seat u = rw (same_self (producer u))

pub consumer_seat : (u : Site) → seat u (consumer u) ≡ 1
consumer_seat u = go (producer u)
  where
    go : (p : Core) → seat_of p (other p) ≡ 1
    go core0 = refl
    go core1 = refl

producer_whom : (u : Site) → whom u (producer u) ≡ Producer
producer_whom u = rw (same_self (producer u))

pub consumer_pops : (u : Site) → pushes u.ring (consumer u) ≡ false
consumer_pops u = go (producer u)
  where
    go : (p : Core) → same_core p (other p) ≡ false
    go core0 = refl
    go core1 = refl

consumer_whom : (u : Site) → whom u (consumer u) ≡ Consumer
consumer_whom u = rw (consumer_pops u)

rival_store : (u : Site) (x : Slot) → mv.rival_of x (whom u (producer u)) ≡ x.loaded
unfolding mv.rival_of
rival_store u x = rw (producer_whom u)

rival_load : (u : Site) (x : Slot) → mv.rival_of x (whom u (consumer u)) ≡ x.stored
unfolding mv.rival_of
rival_load u x = rw (consumer_whom u)

store_did : (u : Site) (v : ℕ) → mv.access_did false (whom u (producer u)) v ≡ DataStored
unfolding mv.access_did
store_did u v = rw (producer_whom u)

load_did : (u : Site) (v : ℕ) → mv.access_did false (whom u (consumer u)) v ≡ DataLoaded v
unfolding mv.access_did
load_did u v = rw (consumer_whom u)

stored_slot : (u : Site) (x : Slot) (v e : ℕ) → mv.accessed x false (whom u (producer u)) v e ≡ record { byte = v; stored = e; loaded = x.loaded }
unfolding mv.accessed
stored_slot u x v e = rw (producer_whom u)

loaded_slot : (u : Site) (x : Slot) (v e : ℕ) → mv.accessed x false (whom u (consumer u)) v e ≡ record { byte = x.byte; stored = x.stored; loaded = e }
unfolding mv.accessed
loaded_slot u x v e = rw (consumer_whom u)

-- The producer's data store.
module _ {u : Site} (g : Fit u) {s : Ring} {st : Local} {xs : List Result} (r : Rep u s st xs) (h : st.halted ≡ false)
    (more : (core_at s (seat u (producer u))).batch < length (sizes_of u (producer u))) (i : ℕ) (ep : (st.queue.side (producer u)).phase ≡ moving i)
    (left : i < get_or (sizes_of u (producer u)) (core_at s (seat u (producer u))).batch 0) where
  -- The next byte to be pushed.
  byte_small : get_or st.queue.feed 0 0 < 256
  byte_small = rw (r.feed_is, get_or-drop ((core_at s (seat u (producer u))).passed + (core_at s (seat u (producer u))).moved) (part u).push_bytes 0 0)
      (g.bytes ((core_at s (seat u (producer u))).passed + (core_at s (seat u (producer u))).moved + 0))

  store_moves : (y k : ℕ) → y < (part u).size
      → Joined u (accessed u s (producer u) y false k (get_or st.queue.feed 0 0) (next st.trace)) st xs
      (performed u.ring data_stored (store (producer u) (slot u.ring y) (get_or st.queue.feed 0 0)) (after_access g r h (producer u) more i ep left (get_or st.queue.feed 0 0)
      (set st.queue.slots y (get_or st.queue.feed 0 0)) (drop 1 st.queue.feed) st.queue.out))
  store_moves y k lt =
      let v : ℕ = get_or st.queue.feed 0 0 in
      let P : Core = producer u in
      let d : rc.Core = mv.moved_on (core_at s (seat u P)) false in
      let z = moved_facts g r h P more i ep left in
      let e : (core_at s (seat u P)).passed + (core_at s (seat u P)).moved + 1 ≡ d.passed + d.moved = omega (arith, z) in
      let cell = stored_slot u (get_or s.slots y fresh_slot) v (next st.trace) in
      subst (λ (n : ℕ). Joined u (accessed u s P y false k v (next st.trace)) st xs
      (performed u.ring n (store P (slot u.ring y) v) (after_access g r h P more i ep left v (set st.queue.slots y v) (drop 1 st.queue.feed) st.queue.out))) (ap performed_mark (store_did u ((get_or s.slots y fresh_slot).byte % 256)))
      (moves_joined g r h P more i ep left (store P (slot u.ring y) v) y k v v (set st.queue.slots y v) (drop 1 st.queue.feed) st.queue.out (stores_slot P)
      (rw cell (bytes_stored u g.slots s.slots st.queue.slots y lt r.bytes_are v (next st.trace) byte_small))
      (rw cell (lately_stored u g.slots s.slots st.queue.slots y lt r.bytes_are st.trace (r.lately h) v))
      (rw (put_same u s.cores P d r.two_cores, r.feed_is)
      (drop-drop 1 ((core_at s (seat u P)).passed + (core_at s (seat u P)).moved) (part u).push_bytes ∙ ap (λ (j : ℕ). drop j (part u).push_bytes) e))
      (rw (put_other u s.cores P d) r.out_long)
      (rw (store_did u ((get_or s.slots y fresh_slot).byte % 256)) (sym (append-nil st.queue.out))))

  -- 3. THE DATA STORE.
  pub store_joined : (byte : ℕ) → byte ≡ get_or st.queue.feed 0 0
      → Joined u (mv.data_access s (whom u (producer u)) byte (next st.trace)) st xs (step_at u (producer u) st 0)
  unfolding after_access
  store_joined byte eb =
      let t : Trace = st.trace in
      let P : Core = producer u in
      let y : ℕ = pl.slot_of (shape u) u.ring (st.queue.side P).own i in
      let k : ℕ = rival t P (slot u.ring y) true in
      let v : ℕ = get_or st.queue.feed 0 0 in
      let lt = inside g r h P more i ep left in
      let n : ℕ = get_or (sizes_of u P) (core_at s (seat u P)).batch 0 in
      let rest : List ℕ = drop ((core_at s (seat u P)).batch + 1) (sizes_of u P) in
      let ex : step_at u P st 0 ≡ decided (shape u).orders u.ring P st.queue t (pl.data_store u.ring P st.queue n rest i y) =
      access_step g r h P more i ep left
      ∙ ap (λ (b : Bool). decided (shape u).orders u.ring P st.queue t (cond b (pl.data_store u.ring P st.queue n rest i y) (pl.data_load u.ring P st.queue t n rest i y))) (same_self P) in
      rw (
        eb,
        data_ring g r h P more i ep left y k v (next t) (slot_is g r h P more i ep left) (sym (rival_store u (get_or s.slots y fresh_slot) ∙ (r.lately h).loaded_is y lt)),
        ex,
      )
      (access_joined g r h P more i ep left (store P (slot u.ring y) v) y k v _ (stores_slot P) (store_moves y k lt) (ltb (know (shape u).orders t P) k))

-- The consumer's data load.
module _ {u : Site} (g : Fit u) {s : Ring} {st : Local} {xs : List Result} (r : Rep u s st xs) (h : st.halted ≡ false)
    (more : (core_at s (seat u (consumer u))).batch < length (sizes_of u (consumer u))) (i : ℕ) (ep : (st.queue.side (consumer u)).phase ≡ moving i)
    (left : i < get_or (sizes_of u (consumer u)) (core_at s (seat u (consumer u))).batch 0) where
  load_moves : (y k e byte : ℕ) → y < (part u).size
      → Joined u (accessed u s (consumer u) y false k byte (next st.trace)) st xs
      (performed u.ring data_loaded (load (consumer u) (slot u.ring y) e) (after_access g r h (consumer u) more i ep left (get_or st.queue.slots y 0)
      st.queue.slots st.queue.feed (st.queue.out ++ (get_or st.queue.slots y 0 ∷ []))))
  load_moves y k e byte lt =
      let v : ℕ = get_or st.queue.slots y 0 in
      let C : Core = consumer u in
      let d : rc.Core = mv.moved_on (core_at s (seat u C)) false in
      let z = moved_facts g r h C more i ep left in
      let cell = loaded_slot u (get_or s.slots y fresh_slot) byte (next st.trace) in
      subst (λ (n : ℕ). Joined u (accessed u s C y false k byte (next st.trace)) st xs
      (performed u.ring n (load C (slot u.ring y) e) (after_access g r h C more i ep left v st.queue.slots st.queue.feed (st.queue.out ++ (v ∷ []))))) (ap performed_mark (load_did u ((get_or s.slots y fresh_slot).byte % 256)))
      (moves_joined g r h C more i ep left (load C (slot u.ring y) e) y k byte v st.queue.slots st.queue.feed (st.queue.out ++ (v ∷ [])) (loads_slot C)
      (rw cell (bytes_loaded u g.slots s.slots st.queue.slots y lt r.bytes_are (next st.trace)))
      (rw cell (lately_loaded u g.slots s.slots st.queue.slots y lt r.bytes_are st.trace (r.lately h) e))
      (subst (λ (b : Core). st.queue.feed ≡ drop ((get_or (set s.cores (seat u C) d) (seat u b) fresh_core).passed + (get_or (set s.cores (seat u C) d) (seat u b) fresh_core).moved) (part u).push_bytes) (other_other (producer u))
      (rw (put_other u s.cores C d)
      (subst (λ (b : Core). st.queue.feed ≡ drop ((core_at s (seat u b)).passed + (core_at s (seat u b)).moved) (part u).push_bytes) (sym (other_other (producer u))) r.feed_is)))
      (rw (put_same u s.cores C d r.two_cores) (length-append st.queue.out (v ∷ []) ∙ omega (arith, r.out_long, z)))
      (rw (load_did u ((get_or s.slots y fresh_slot).byte % 256)) (ap (λ (b : ℕ). st.queue.out ++ (b ∷ []))
      (sym (mod-eq_of_lt (r.bytes_are.byte_lt y lt)) ∙ ap (λ (b : ℕ). b % 256) (sym (r.bytes_are.byte_is y lt))))))

  -- 3. THE DATA LOAD.
  pub load_joined : (byte : ℕ) → Joined u (mv.data_access s (whom u (consumer u)) byte (next st.trace)) st xs (step_at u (consumer u) st 0)
  unfolding after_access
  load_joined byte =
      let t : Trace = st.trace in
      let C : Core = consumer u in
      let y : ℕ = pl.slot_of (shape u) u.ring (st.queue.side C).own i in
      let k : ℕ = rival t C (slot u.ring y) false in
      let e : ℕ = latest t (slot u.ring y) in
      let lt = inside g r h C more i ep left in
      let n : ℕ = get_or (sizes_of u C) (core_at s (seat u C)).batch 0 in
      let rest : List ℕ = drop ((core_at s (seat u C)).batch + 1) (sizes_of u C) in
      let ex : step_at u C st 0 ≡ decided (shape u).orders u.ring C st.queue t (pl.data_load u.ring C st.queue t n rest i y) =
      access_step g r h C more i ep left
      ∙ ap (λ (b : Bool). decided (shape u).orders u.ring C st.queue t (cond b (pl.data_store u.ring C st.queue n rest i y) (pl.data_load u.ring C st.queue t n rest i y))) (consumer_pops u) in
      rw (
        data_ring g r h C more i ep left y k byte (next t) (slot_is g r h C more i ep left) (sym (rival_load u (get_or s.slots y fresh_slot) ∙ (r.lately h).stored_is y lt)),
        ex,
      )
      (access_joined g r h C more i ep left (load C (slot u.ring y) e) y k byte _ (loads_slot C) (load_moves y k e byte lt) (ltb (know (shape u).orders t C) k))

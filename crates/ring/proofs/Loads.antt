-- The loads of an index, of the core's own and of the other's: each is the step of the definition's computed machine.
use mathlib.Core.Path.{◌≡◌, refl, ap, sym, ◌∙◌, subst}
use mathlib.Core.Bool.{Bool, true, false, cond}
use mathlib.Core.Option.{some}
use mathlib.Core.List.{List, [], ◌∷◌, ◌++◌, append-nil}
use Prim.Native.Nat.{ℕ, ◌+◌, ◌<◌, ◌≤◌, max}
use native.Mathlib.Omega.{arith}
use native.Mathlib.Numerals.{add-one}
use lib.Dec.{eqb, ltb}
use lib.ListN.{get_or, set, length, drop, length-append}
use lib.Seq.{drop-drop}
use borrow.Author.Tests.{ltb-false, lt-ltb, le-leb, ne_eqb}
use Rattle.order.specs.Trace.{Core, other, index, slot, Act, load, Trace, who, stores_to, accesses, stores, latest, value_of}
use Rattle.order.specs.computed.Record.{know, learn, newer, seen, out_of_reach}
use Rattle.order.proofs.Trace.{cond_elim, or_none, other_other, same_true, same_false}
use Rattle.model.specs.Marks.{own_loaded, batch_failed, race_found}
use Rattle.model.specs.Queue.{Phase, start, reload, moving, Side, Queue, pushes, shortfall, is_short}
use Rattle.model.specs.Plan as pl
use Rattle.model.specs.Run.{Result, performed}
use Rattle.model.specs.Report.{one, missed}
use Rattle.model.specs.computed.Machine.{decided}
use Rattle.model.proofs.Total.{total_take_suc}
use Rattle.std.specs.Prelude.{None}
use Rattle.ring.specs.declared.marks.Performed.{Performed}
use Rattle.ring.specs.declared.marks.Performed.TheVariants.{OwnLoaded, ForeignLoaded, BatchFailed}
use Rattle.ring.specs.declared.state.Stores.{Stores}
use Rattle.ring.specs.declared.state.Core as rc
use Rattle.ring.specs.declared.state.Ring.{Ring}
use Rattle.ring.specs.computed.State as states
use Rattle.ring.specs.declared.orders.Orders.{Orders}
use Rattle.ring.specs.computed.Orders.{orders_of}
use Rattle.ring.specs.computed.Who.{chosen}
use Rattle.ring.specs.computed.Marks.{performed_mark, byte_read}
use Rattle.ring.specs.computed.State.{fresh_core, place_of, newest_of, core_at}
use Rattle.ring.specs.computed.Moves as mv
use Rattle.ring.proofs.Site.{Site, part, shape, producer, whom, seat, sizes_of, Fit, Local, step_at}
use Rattle.ring.proofs.Parts.{batches_cons, progress, phase_after_load, learnt_is}
use Rattle.ring.proofs.Lists.{listed_old, newest_is, newest_below, ReadTo, reach_is}
use Rattle.ring.proofs.Rep.{list_of, list_same, read_kept, Sized, CoreRep, Rep, put_same, put_other, lately_kept}
use Rattle.ring.proofs.Kept.{moved_kept}
use Rattle.ring.proofs.Join.{Joined, chosen_is, chosen_other, feed_keeps, out_keeps, step_is, own_learns_nothing, own_reads_nothing, foreign_reads, no_slot, short_pos, short_same}

module _ {u : Site} (g : Fit u) {s : Ring} {st : Local} {xs : List Result} (r : Rep u s st xs) (h : st.halted ≡ false) (c : Core)
    (more : (core_at s (seat u c)).batch < length (sizes_of u c)) where
  -- The batches left, with the present one's size.
  pub batches : (st.queue.side c).batches ≡ get_or (sizes_of u c) (core_at s (seat u c)).batch 0 ∷ drop ((core_at s (seat u c)).batch + 1) (sizes_of u c)
  batches = (r.core_is c).batches_are ∙ batches_cons (sizes_of u c) (core_at s (seat u c)).batch more

  -- A load of an index: one core changes, and no list and no slot.
  core_joined : (a : Act) (did : Performed) (d : rc.Core) (me : Side) (feed : List ℕ) → who a ≡ some c → performed_mark did < race_found → byte_read did ≡ None
      → ((e : Core) → stores_to (index u.ring e) a ≡ false) → ((e : Core) (y : ℕ) → accesses e (slot u.ring y) a ≡ false)
      → CoreRep u (a ∷ st.trace) c d me → (core_at s (seat u c)).batch ≤ d.batch
      → feed ≡ drop ((get_or (set s.cores (seat u c) d) (seat u (producer u)) fresh_core).passed + (get_or (set s.cores (seat u c) d) (seat u (producer u)) fresh_core).moved) (part u).push_bytes
      → d.done + d.moved ≡ (core_at s (seat u c)).done + (core_at s (seat u c)).moved
      → d.failed ≡ (core_at s (seat u c)).failed + one (eqb (performed_mark did) batch_failed)
      → d.largest ≡ max (core_at s (seat u c)).largest (cond (eqb (performed_mark did) batch_failed) (missed (shape u) u.ring c (st.queue.side c).batches me) 0)
      → ReadTo (list_of u s (other c)) d.read (seen (a ∷ st.trace) c (index u.ring (other c)))
      → Joined u (mv.with_core s (whom u c) d did) st xs (performed u.ring (performed_mark did) a (pl.turned st.queue c me feed))
  core_joined a did d me feed acts plain no5 ns na core later fed outs fails misses read =
      let s' : Ring = mv.with_core s (whom u c) d did in
      let same = list_same u s s' refl refl in
      record {
        rep = moved_kept r h (record {
          shape_same = (refl, refl, refl);
          unraced = (r.quiet h).0;
          cores_are = refl;
          sides_are = refl;
          acts = acts;
          plain = plain;
          core_new = core;
          lists_new = λ e. rw (same e) (listed_old a (ns e) (r.list_is e));
          read_new = rw (same (other c)) read;
          still_read = λ p e w. rw (same c) w;
          few_new = rw (same c) (omega (arith, r.list_few c, later));
          few_other = ap (λ (l : Stores). l.count) (same (other c));
          bytes_new = r.bytes_are;
          lately_new = lately_kept a na (r.lately h);
          feed_new = fed;
          out_new = r.out_long ∙ sym (out_keeps u s.cores r.two_cores c d outs);
          failed_new = fails;
          largest_new = misses;
        });
        mark_is = refl;
        performs = le-leb (performed_mark did) race_found (omega (arith, plain));
        out_is = rw no5 (sym (append-nil st.queue.out));
        race_is = (r.quiet h).0 ∙ rw (ne_eqb (performed_mark did) race_found (λ z. omega (arith, plain)));
        of-ring = refl;
        running = h;
      }

  -- 1. The own load.

  own_core : (a : Act) (b : Bool) (n v own : ℕ) → learn (shape u).orders c a ≡ 0 → n ≡ get_or (sizes_of u c) (core_at s (seat u c)).batch 0
      → own ≡ v → v < (part u).modulus → (b ≡ true → 0 < n)
      → CoreRep u (a ∷ st.trace) c (mv.own_loaded (core_at s (seat u c)) own n b) (record {
        batches = get_or (sizes_of u c) (core_at s (seat u c)).batch 0 ∷ drop ((core_at s (seat u c)).batch + 1) (sizes_of u c);
        phase = cond b reload (moving 0);
        own = v;
        cached = (st.queue.side c).cached;
        moved = [];
        completed = (st.queue.side c).completed;
      })
  unfolding mv.own_loaded
  own_core a b n v own learns en ev lt pos =
      let d = r.core_is c in
      record {
        phase_is = phase_after_load b n;
        moved_is = cond_elim (λ (p : Phase). 0 ≡ progress p) b reload (moving 0) (λ _. refl) (λ _. refl);
        batches_are = sym (batches_cons (sizes_of u c) (core_at s (seat u c)).batch more);
        batch_le = d.batch_le;
        sized = cond_elim (Sized (sizes_of u c) (core_at s (seat u c)).batch n) b reload (moving 0) (λ k. (more, en, pos k)) (λ _. (more, en, omega arith));
        size_lt = rw en (g.small c (core_at s (seat u c)).batch);
        own_is = ev;
        own_lt = lt;
        cached_is = d.cached_is;
        known_is = d.known_is ∙ omega (arith, learns);
        passed_is = d.passed_is;
        done_is = d.done_is;
        done_le = d.done_le;
        bytes_moved = refl;
        failed_le = d.failed_le;
      }

  own_facts : (v n : ℕ) (b : Bool) → let d = mv.own_loaded (core_at s (seat u c)) v n b in
      ((core_at s (seat u c)).batch ≤ d.batch) × (d.passed ≡ (core_at s (seat u c)).passed) × (d.moved ≡ 0) × (d.done ≡ (core_at s (seat u c)).done)
      × (d.failed ≡ (core_at s (seat u c)).failed) × (d.largest ≡ (core_at s (seat u c)).largest) × (d.read ≡ (core_at s (seat u c)).read)
  unfolding mv.own_loaded
  own_facts v n b = (omega arith, refl, refl, refl, refl, refl, refl)

  own_ring : (n v : ℕ) → n ≡ get_or (sizes_of u c) (core_at s (seat u c)).batch 0 → v ≡ value_of st.trace (latest st.trace (index u.ring c))
      → mv.own_load s (whom u c) n
      ≡ mv.with_core s (whom u c) (mv.own_loaded (core_at s (seat u c)) v (get_or (sizes_of u c) (core_at s (seat u c)).batch 0)
      (is_short (shape u) u.ring c (get_or (sizes_of u c) (core_at s (seat u c)).batch 0) v (st.queue.side c).cached)) OwnLoaded
  unfolding mv.own_load
  own_ring n v en ev =
      let eo : newest_of (chosen (whom u c) s.back s.front) ≡ v = ap newest_of (chosen_is u c s.back s.front) ∙ newest_is (r.list_is c) ∙ sym ev in
      let es = short_same r c n (newest_of (chosen (whom u c) s.back s.front)) v (core_at s (seat u c)).cached (st.queue.side c).cached eo (r.core_is c).cached_is in
      cc (en, eo, es)

  pub own_joined : (st.queue.side c).phase ≡ start → (size : ℕ) → size ≡ get_or (sizes_of u c) (core_at s (seat u c)).batch 0
      → Joined u (mv.own_load s (whom u c) size) st xs (step_at u c st 0)
  own_joined ep size es =
      let t : Trace = st.trace in
      let q : Queue = st.queue in
      let v : ℕ = value_of t (latest t (index u.ring c)) in
      let n : ℕ = get_or (sizes_of u c) (core_at s (seat u c)).batch 0 in
      let rest : List ℕ = drop ((core_at s (seat u c)).batch + 1) (sizes_of u c) in
      let a : Act = load c (index u.ring c) (latest t (index u.ring c)) in
      let b : Bool = is_short (shape u) u.ring c n v (q.side c).cached in
      let d : rc.Core = mv.own_loaded (core_at s (seat u c)) v n b in
      let me : Side = record { batches = n ∷ rest; phase = cond b reload (moving 0); own = v; cached = (q.side c).cached; moved = []; completed = (q.side c).completed } in
      let small : v < (part u).modulus = rw (newest_is (r.list_is c)) at (newest_below (r.list_is c)) in
      let learns = own_learns_nothing (shape u).orders u.ring c (latest t (index u.ring c)) in
      let still : (core_at s (seat u c)).moved ≡ 0 = (r.core_is c).moved_is ∙ ap progress ep in
      let ex : step_at u c st 0 ≡ performed u.ring own_loaded a (pl.turned q c me q.feed) =
      step_is u st c 0 h ∙ ap (decided (shape u).orders u.ring c q t)
      (ap (pl.of_batches (shape u) u.ring c q t 0) batches ∙ ap (pl.in_batch (shape u) u.ring c q t 0 n rest) ep) in
      rw (own_ring size v es refl, ex) (
      core_joined a OwnLoaded d me q.feed refl (omega arith) refl (λ e. refl) (λ e y. no_slot e c y) (own_core a b n v v learns refl refl small (λ k. short_pos (shape u) u.ring c n v (q.side c).cached k))
      (own_facts v n b).0
      (r.feed_is ∙ ap (λ k. drop k (part u).push_bytes) (sym (feed_keeps u s.cores r.two_cores c d (omega (arith, own_facts v n b, still)))))
      (omega (arith, own_facts v n b, still))
      (omega (arith, own_facts v n b))
      (omega (arith, own_facts v n b))
      (rw (own_facts v n b).6 (read_kept a t c (index u.ring (other c)) (own_reads_nothing u.ring c (latest t (index u.ring c))) (r.read_is c)))
      )

  -- 2. The foreign load.

  failed_core : (a : Act) (v p k x : ℕ) → k ≡ know (shape u).orders (a ∷ st.trace) c → (st.queue.side c).phase ≡ reload
      → CoreRep u (a ∷ st.trace) c (mv.batch_lost (core_at s (seat u c)) v p k x) (record {
        batches = drop ((core_at s (seat u c)).batch + 1) (sizes_of u c);
        phase = start;
        own = (st.queue.side c).own;
        cached = v;
        moved = [];
        completed = (st.queue.side c).completed;
      })
  unfolding mv.batch_lost
  failed_core a v p k x ek ep =
      let d = r.core_is c in
      let still : (core_at s (seat u c)).moved ≡ 0 = d.moved_is ∙ ap progress ep in
      let en : (core_at s (seat u c)).size ≡ get_or (sizes_of u c) (core_at s (seat u c)).batch 0 = (rw ep at d.sized).1 in
      record {
        phase_is = refl;
        moved_is = still;
        batches_are = refl;
        batch_le = omega arith;
        sized = tt;
        size_lt = d.size_lt;
        own_is = d.own_is;
        own_lt = d.own_lt;
        cached_is = refl;
        known_is = ek;
        passed_is = rw (add-one (core_at s (seat u c)).batch, total_take_suc (sizes_of u c) (core_at s (seat u c)).batch more) (omega (arith, d.passed_is, en));
        done_is = d.done_is;
        done_le = omega (arith, d.done_le);
        bytes_moved = sym still;
        failed_le = omega (arith, d.failed_le);
      }

  kept_core : (a : Act) (v p k : ℕ) → k ≡ know (shape u).orders (a ∷ st.trace) c → (st.queue.side c).phase ≡ reload
      → CoreRep u (a ∷ st.trace) c (mv.batch_kept (core_at s (seat u c)) v p k) (record {
        batches = get_or (sizes_of u c) (core_at s (seat u c)).batch 0 ∷ drop ((core_at s (seat u c)).batch + 1) (sizes_of u c);
        phase = moving 0;
        own = (st.queue.side c).own;
        cached = v;
        moved = [];
        completed = (st.queue.side c).completed;
      })
  unfolding mv.batch_kept
  kept_core a v p k ek ep =
      let d = r.core_is c in
      let still : (core_at s (seat u c)).moved ≡ 0 = d.moved_is ∙ ap progress ep in
      let sz = rw ep at d.sized in
      record {
        phase_is = rw (lt-ltb 0 (core_at s (seat u c)).size sz.2);
        moved_is = still;
        batches_are = sym (batches_cons (sizes_of u c) (core_at s (seat u c)).batch more);
        batch_le = d.batch_le;
        sized = (more, sz.1, omega arith);
        size_lt = d.size_lt;
        own_is = d.own_is;
        own_lt = d.own_lt;
        cached_is = refl;
        known_is = ek;
        passed_is = d.passed_is;
        done_is = d.done_is;
        done_le = d.done_le;
        bytes_moved = sym still;
        failed_le = d.failed_le;
      }

  foreign_ring : (age e v p k : ℕ) → p ≡ place_of (list_of u s (other c)) age → age < (list_of u s (other c)).count → e ≡ get_or (list_of u s (other c)).entries (place_of (list_of u s (other c)) age) 0
      → v ≡ value_of st.trace e → k ≡ know (shape u).orders (load c (index u.ring (other c)) e ∷ st.trace) c → (st.queue.side c).phase ≡ reload
      → let x = shortfall (shape u) u.ring c (get_or (sizes_of u c) (core_at s (seat u c)).batch 0) (st.queue.side c).own v in
      mv.foreign_load s (whom u c) age
      ≡ mv.with_core s (whom u c) (cond (ltb 0 x) (mv.batch_lost (core_at s (seat u c)) v p k x) (mv.batch_kept (core_at s (seat u c)) v p k)) (mv.load_did (ltb 0 x))
  unfolding mv.foreign_load mv.foreign_loaded
  foreign_ring age e v p k eq small ee ev ek ep =
      let theirs : Stores = list_of u s (other c) in
      let th : chosen (whom u c) s.front s.back ≡ list_of u s (other c) = chosen_other u c s.back s.front in
      let d = r.core_is c in
      let n : ℕ = get_or (sizes_of u c) (core_at s (seat u c)).batch 0 in
      let en : (core_at s (seat u c)).size ≡ n = (rw ep at d.sized).1 in
      let value : get_or theirs.values (place_of theirs age) 0 ≡ v = (r.list_is (other c)).value_is age small ∙ ap (value_of st.trace) (sym ee) ∙ sym ev in
      let known : mv.learnt_of (mv.syncs_of s.orders (whom u c)) (core_at s (seat u c)).known (get_or theirs.entries (place_of theirs age) 0) ≡ k =
      learnt_at s.orders (core_at s (seat u c)).known (get_or theirs.entries (place_of theirs age) 0) e r.orders_are d.known_is (sym ee) ∙ sym ek in
      let short = short_same r c n (core_at s (seat u c)).own (st.queue.side c).own (get_or theirs.values (place_of theirs age) 0) v d.own_is value in
      cc (th, en, value, known, short, eq)
    where
      learnt_at : (orders : Orders) (kn x e : ℕ) → orders ≡ orders_of (part u).bits → kn ≡ know (shape u).orders st.trace c → x ≡ e
          → mv.learnt_of (mv.syncs_of orders (whom u c)) kn x ≡ know (shape u).orders (load c (index u.ring (other c)) e ∷ st.trace) c
      learnt_at orders kn x e p q z = rw (p, q, z) (learnt_is u st.trace c e)

  -- A failed push's bytes are passed over.
  feed_skips : (n : ℕ) (d : rc.Core) → n ≡ (core_at s (seat u c)).size → d.passed ≡ (core_at s (seat u c)).passed + (core_at s (seat u c)).size → d.moved ≡ (core_at s (seat u c)).moved
      → pl.pass_over (pushes u.ring c) n st.queue.feed
      ≡ drop ((get_or (set s.cores (seat u c) d) (seat u (producer u)) fresh_core).passed + (get_or (set s.cores (seat u c) d) (seat u (producer u)) fresh_core).moved) (part u).push_bytes
  feed_skips n d en ep em = go (pushes u.ring c) refl
    where
      go : (b : Bool) → pushes u.ring c ≡ b → pl.pass_over b n st.queue.feed
          ≡ drop ((get_or (set s.cores (seat u c) d) (seat u (producer u)) fresh_core).passed + (get_or (set s.cores (seat u c) d) (seat u (producer u)) fresh_core).moved) (part u).push_bytes
      go true e =
          let pc : producer u ≡ c = same_true (producer u) c e in
          let l : (core_at s (seat u c)).passed + (core_at s (seat u c)).moved + n ≡ d.passed + d.moved = omega arith in
          subst (λ (b : Core). drop n st.queue.feed ≡ drop ((get_or (set s.cores (seat u c) d) (seat u b) fresh_core).passed + (get_or (set s.cores (seat u c) d) (seat u b) fresh_core).moved) (part u).push_bytes) (sym pc)
          (rw (put_same u s.cores c d r.two_cores)
          (ap (drop n) (subst (λ (b : Core). st.queue.feed ≡ drop ((core_at s (seat u b)).passed + (core_at s (seat u b)).moved) (part u).push_bytes) pc r.feed_is)
          ∙ drop-drop n ((core_at s (seat u c)).passed + (core_at s (seat u c)).moved) (part u).push_bytes ∙ ap (λ (k : ℕ). drop k (part u).push_bytes) l))
      go false e =
          let pc : other c ≡ producer u = ap other (same_false (producer u) c e) ∙ other_other (producer u) in
          subst (λ (b : Core). st.queue.feed ≡ drop ((get_or (set s.cores (seat u c) d) (seat u b) fresh_core).passed + (get_or (set s.cores (seat u c) d) (seat u b) fresh_core).moved) (part u).push_bytes) pc
          (rw (put_other u s.cores c d)
          (subst (λ (b : Core). st.queue.feed ≡ drop ((core_at s (seat u b)).passed + (core_at s (seat u b)).moved) (part u).push_bytes) (sym pc) r.feed_is))

  failed_facts : (v p k x : ℕ) → let d = mv.batch_lost (core_at s (seat u c)) v p k x in
      (d.batch ≡ (core_at s (seat u c)).batch + 1) × (d.passed ≡ (core_at s (seat u c)).passed + (core_at s (seat u c)).size) × (d.moved ≡ (core_at s (seat u c)).moved)
      × (d.done ≡ (core_at s (seat u c)).done) × (d.failed ≡ (core_at s (seat u c)).failed + 1) × (mv.load_did true ≡ BatchFailed)
      × (d.largest ≡ max (core_at s (seat u c)).largest x) × (d.read ≡ p)
  unfolding mv.batch_lost mv.load_did
  failed_facts v p k x = (refl, refl, refl, refl, refl, refl, refl, refl)

  kept_facts : (v p k : ℕ) → let d = mv.batch_kept (core_at s (seat u c)) v p k in
      (d.batch ≡ (core_at s (seat u c)).batch) × (d.passed ≡ (core_at s (seat u c)).passed) × (d.moved ≡ (core_at s (seat u c)).moved)
      × (d.done ≡ (core_at s (seat u c)).done) × (d.failed ≡ (core_at s (seat u c)).failed) × (mv.load_did false ≡ ForeignLoaded)
      × (d.largest ≡ (core_at s (seat u c)).largest) × (d.read ≡ p)
  unfolding mv.batch_kept mv.load_did
  kept_facts v p k = (refl, refl, refl, refl, refl, refl, refl, refl)

  -- By whether room is still short.
  by_room : (e v p k x : ℕ) (b : Bool) → ReadTo (list_of u s (other c)) p (seen (load c (index u.ring (other c)) e ∷ st.trace) c (index u.ring (other c))) → x ≡ shortfall (shape u) u.ring c (get_or (sizes_of u c) (core_at s (seat u c)).batch 0) (st.queue.side c).own v
      → k ≡ know (shape u).orders (load c (index u.ring (other c)) e ∷ st.trace) c → (st.queue.side c).phase ≡ reload
      → out_of_reach (shape u).orders st.trace c (index u.ring (other c)) e ≡ false
      → Joined u (mv.with_core s (whom u c) (cond b (mv.batch_lost (core_at s (seat u c)) v p k x) (mv.batch_kept (core_at s (seat u c)) v p k)) (mv.load_did b)) st xs
      (decided (shape u).orders u.ring c st.queue st.trace (cond b
      (pl.fail_batch u.ring c st.queue (get_or (sizes_of u c) (core_at s (seat u c)).batch 0) (drop ((core_at s (seat u c)).batch + 1) (sizes_of u c)) e v)
      (pl.keep_batch u.ring c st.queue (get_or (sizes_of u c) (core_at s (seat u c)).batch 0) (drop ((core_at s (seat u c)).batch + 1) (sizes_of u c)) e v)))
  by_room e v p k x true read ex ek ep new =
      let a : Act = load c (index u.ring (other c)) e in
      let d : rc.Core = mv.batch_lost (core_at s (seat u c)) v p k x in
      let z = failed_facts v p k x in
      let me : Side = record { batches = drop ((core_at s (seat u c)).batch + 1) (sizes_of u c); phase = start; own = (st.queue.side c).own; cached = v; moved = []; completed = (st.queue.side c).completed } in
      let by : missed (shape u) u.ring c (st.queue.side c).batches me ≡ x = ap (λ (l : List ℕ). missed (shape u) u.ring c l me) batches ∙ sym ex in
      let en : get_or (sizes_of u c) (core_at s (seat u c)).batch 0 ≡ (core_at s (seat u c)).size = sym (rw ep at (r.core_is c).sized).1 in
      rw (z.5, new) (
      core_joined a BatchFailed d _ _ refl (omega arith) refl (λ x. refl) (λ x y. no_slot x c y) (failed_core a v p k x ek ep)
      (omega arith) (feed_skips (get_or (sizes_of u c) (core_at s (seat u c)).batch 0) d en z.1 z.2) (omega arith) (omega arith) (omega arith) (rw z.7 read)
      )
  by_room e v p k x false read ex ek ep new =
      let a : Act = load c (index u.ring (other c)) e in
      let d : rc.Core = mv.batch_kept (core_at s (seat u c)) v p k in
      let z = kept_facts v p k in
      rw (z.5, new) (
      core_joined a ForeignLoaded d _ _ refl (omega arith) refl (λ x. refl) (λ x y. no_slot x c y) (kept_core a v p k ek ep)
      (omega arith) (r.feed_is ∙ ap (λ (j : ℕ). drop j (part u).push_bytes) (sym (feed_keeps u s.cores r.two_cores c d (omega arith)))) (omega arith) (omega arith) (omega arith) (rw z.7 read)
      )

  pub foreign_joined : (st.queue.side c).phase ≡ reload → (age : ℕ) → age < (list_of u s (other c)).count
      → states.out_of_reach (list_of u s (other c)).entries (place_of (list_of u s (other c)) age) (core_at s (seat u c)).known (core_at s (seat u c)).read (list_of u s (other c)).count ≡ false
      → Joined u (mv.foreign_load s (whom u c) age) st xs (step_at u c st age)
  foreign_joined ep age small reached =
      let q : Queue = st.queue in
      let t : Trace = st.trace in
      let e : ℕ = get_or (list_of u s (other c)).entries (place_of (list_of u s (other c)) age) 0 in
      let v : ℕ = value_of t e in
      let k : ℕ = know (shape u).orders (load c (index u.ring (other c)) e ∷ t) c in
      let n : ℕ = get_or (sizes_of u c) (core_at s (seat u c)).batch 0 in
      let rest : List ℕ = drop ((core_at s (seat u c)).batch + 1) (sizes_of u c) in
      let p : ℕ = place_of (list_of u s (other c)) age in
      let new : out_of_reach (shape u).orders t c (index u.ring (other c)) e ≡ false =
      sym (reach_is (r.list_is (other c)) (shape u).orders c age (core_at s (seat u c)).known (core_at s (seat u c)).read small (r.core_is c).known_is (r.read_is c)) ∙ reached in
      let older = ltb-false e (seen t c (index u.ring (other c))) (or_none (newer (stores t (index u.ring (other c))) e (know (shape u).orders t c)) (ltb e (seen t c (index u.ring (other c)))) new).1 in
      let read : ReadTo (list_of u s (other c)) p (seen (load c (index u.ring (other c)) e ∷ t) c (index u.ring (other c))) =
      record { inside = omega (arith, (list_of u s (other c)).some); entry_is = omega (arith, foreign_reads u.ring c e) } in
      let ex : step_at u c st age ≡ decided (shape u).orders u.ring c q t (pl.foreign_load (shape u) u.ring c q n rest e v) =
      step_is u st c age h ∙ ap (decided (shape u).orders u.ring c q t)
      (ap (pl.of_batches (shape u) u.ring c q t age) batches ∙ ap (pl.in_batch (shape u) u.ring c q t age n rest) ep
      ∙ ap (pl.foreign_load_of (shape u) u.ring c q t n rest) ((r.list_is (other c)).entry_is age small)) in
      rw (foreign_ring age e v p k refl small refl refl refl ep, ex) (by_room e v p k (shortfall (shape u) u.ring c n (q.side c).own v) (is_short (shape u) u.ring c n (q.side c).own v) read refl refl ep new)

  -- 4. The index store.

  pub done_core : (a : Act) → learn (shape u).orders c a ≡ 0 → (i : ℕ) → (st.queue.side c).phase ≡ moving i
      → get_or (sizes_of u c) (core_at s (seat u c)).batch 0 ≤ i
      → CoreRep u (a ∷ st.trace) c (mv.completed (core_at s (seat u c))) (record {
        batches = drop ((core_at s (seat u c)).batch + 1) (sizes_of u c);
        phase = start;
        own = (st.queue.side c).own;
        cached = (st.queue.side c).cached;
        moved = [];
        completed = (st.queue.side c).completed ++ (st.queue.side c).moved;
      })
  unfolding mv.completed
  done_core a learns i ep past =
      let d = r.core_is c in
      let sz = rw ep at d.sized in
      let moved : (core_at s (seat u c)).moved ≡ i = d.moved_is ∙ ap progress ep in
      record {
        phase_is = refl;
        moved_is = refl;
        batches_are = refl;
        batch_le = omega arith;
        sized = tt;
        size_lt = d.size_lt;
        own_is = d.own_is;
        own_lt = d.own_lt;
        cached_is = d.cached_is;
        known_is = d.known_is ∙ omega (arith, learns);
        passed_is = rw (add-one (core_at s (seat u c)).batch, total_take_suc (sizes_of u c) (core_at s (seat u c)).batch more) (omega (arith, d.passed_is, sz.1));
        done_is = sym (length-append (st.queue.side c).completed (st.queue.side c).moved ∙ omega (arith, d.done_is, d.bytes_moved, moved, sz.1, sz.2));
        done_le = omega (arith, d.done_le);
        bytes_moved = refl;
        failed_le = omega (arith, d.failed_le);
      }

  pub done_facts : let d = mv.completed (core_at s (seat u c)) in
      (d.batch ≡ (core_at s (seat u c)).batch + 1) × (d.passed ≡ (core_at s (seat u c)).passed + (core_at s (seat u c)).size) × (d.moved ≡ 0)
      × (d.done ≡ (core_at s (seat u c)).done + (core_at s (seat u c)).size) × (d.failed ≡ (core_at s (seat u c)).failed)
      × (d.largest ≡ (core_at s (seat u c)).largest) × (d.read ≡ (core_at s (seat u c)).read)
  unfolding mv.completed
  done_facts = (refl, refl, refl, refl, refl, refl, refl)

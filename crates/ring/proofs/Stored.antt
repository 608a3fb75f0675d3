-- The index store is the step of the definition's computed machine.
use mathlib.Core.Path.{◌≡◌, refl, ap, sym, ◌∙◌}
use mathlib.Core.Bool.{Bool, true, false, cond}
use mathlib.Core.List.{List, [], ◌∷◌, ◌++◌, append-nil}
use Rattle.std.specs.Prelude.{Some}
use Rattle.std.specs.Coded.{le_prop}
use Prim.Native.Nat.{ℕ, ◌+◌, ◌%◌, ◌<◌, ◌≤◌}
use native.Mathlib.Omega.{arith}
use native.Mathlib.Nat.{mod-lt}
use lib.Dec.{eqb}
use lib.ListN.{get_or, set, length, drop}
use lib.Seq.{get_or-set_other}
use borrow.Author.Tests.{le-ltb}
use Rattle.order.specs.Trace.{Core, core0, core1, other, same_core, index, Act, store, Trace, next, stores_to}
use Rattle.order.proofs.Trace.{and_false}
use Rattle.model.specs.Marks.{index_stored}
use Rattle.model.specs.Queue.{start, moving, Side, Queue, pushes}
use Rattle.model.specs.Plan as pl
use Rattle.model.specs.Run.{Result, performed}
use Rattle.model.specs.computed.Machine.{decided}
use Rattle.ring.specs.declared.state.Stores.{Stores}
use Rattle.ring.specs.declared.state.Core as rc
use Rattle.ring.specs.declared.state.Ring.{Ring}
use Rattle.ring.specs.declared.who.Who.TheVariants.{Producer, Consumer}
use Rattle.ring.specs.declared.marks.Performed.TheVariants.{IndexStored}
use Rattle.ring.specs.computed.Who.{chosen}
use Rattle.ring.specs.computed.State.{pushed, core_at}
use Rattle.ring.specs.computed.Moves as mv
use Rattle.ring.proofs.Site.{Site, part, shape, producer, whom_of, whom, seat, sizes_of, Fit, Local, step_at}
use Rattle.ring.proofs.Parts.{batches_cons, progress}
use Rattle.ring.proofs.Lists.{Listed, listed_old, listed_new}
use Rattle.ring.proofs.Rep.{list_of, read_kept, Rep, both, lately_kept}
use Rattle.ring.proofs.Kept.{moved_kept}
use Rattle.ring.proofs.Join.{Joined, feed_keeps, out_keeps, step_is, no_slot}
use Rattle.ring.proofs.Loads.{done_core, done_facts}

-- The ring after core c's index store.
abbrev stored : (u : Site) (s : Ring) (c : Core) (value entry : ℕ) → (chosen (whom u c) s.back s.front).count < 256 → Ring
stored u s c value entry room = record {
  size = s.size;
  modulus = s.modulus;
  race = s.race;
  orders = s.orders;
  last = Some IndexStored;
  slots = s.slots;
  cores = set s.cores (seat u c) (mv.completed (core_at s (seat u c)));
  back = mv.back_stored s (whom u c) value entry room;
  front = mv.front_stored s (whom u c) value entry room;
}

stored_mine : (u : Site) (s : Ring) (c : Core) (v e : ℕ) (room : (chosen (whom u c) s.back s.front).count < 256) (few : (list_of u s c).count < 256)
    → list_of u (stored u s c v e room) c ≡ pushed (list_of u s c) v e few
stored_mine u s c v e = go (pushes u.ring c)
  where
    go : (b : Bool) (room : (chosen (cond b Producer Consumer) s.back s.front).count < 256) (few : (cond b s.back s.front).count < 256)
        → cond b (mv.back_stored s (cond b Producer Consumer) v e room) (mv.front_stored s (cond b Producer Consumer) v e room) ≡ pushed (cond b s.back s.front) v e few
    go true room few = ap (pushed s.back v e) (le_prop room few)
    go false room few = ap (pushed s.front v e) (le_prop room few)

stored_other : (u : Site) (s : Ring) (c : Core) (v e : ℕ) (room : (chosen (whom u c) s.back s.front).count < 256)
    → list_of u (stored u s c v e room) (other c) ≡ list_of u s (other c)
stored_other u s c v e = go (producer u) c
  where
    go : (p c : Core) (room : (chosen (whom_of p c) s.back s.front).count < 256)
        → cond (same_core p (other c)) (mv.back_stored s (whom_of p c) v e room) (mv.front_stored s (whom_of p c) v e room)
        ≡ cond (same_core p (other c)) s.back s.front
    go core0 core0 room = refl
    go core0 core1 room = refl
    go core1 core0 room = refl
    go core1 core1 room = refl

-- A store of an index is no store of the other's.
not_theirs : (r : ℕ) (c : Core) (v : ℕ) → stores_to (index r (other c)) (store c (index r c) v) ≡ false
not_theirs r core0 v = and_false (eqb r r)
not_theirs r core1 v = and_false (eqb r r)

module _ {u : Site} (g : Fit u) {s : Ring} {st : Local} {xs : List Result} (r : Rep u s st xs) (h : st.halted ≡ false) (c : Core)
    (more : (core_at s (seat u c)).batch < length (sizes_of u c)) (i : ℕ) (ep : (st.queue.side c).phase ≡ moving i)
    (past : get_or (sizes_of u c) (core_at s (seat u c)).batch 0 ≤ i) (room : (chosen (whom u c) s.back s.front).count < 256) where
  store_ring : (v : ℕ) → v ≡ ((st.queue.side c).own + get_or (sizes_of u c) (core_at s (seat u c)).batch 0) % (part u).modulus
      → mv.index_store s (whom u c) (next st.trace) room ≡ stored u s c v (next st.trace) room
  unfolding mv.index_store
  store_ring v ev =
      let sz = rw ep at (r.core_is c).sized in
      let e : ((core_at s (seat u c)).own + (core_at s (seat u c)).size) % s.modulus ≡ v =
      value_eq (core_at s (seat u c)).own (st.queue.side c).own (core_at s (seat u c)).size (get_or (sizes_of u c) (core_at s (seat u c)).batch 0) s.modulus (r.core_is c).own_is sz.1 r.modulus_is ∙ sym ev in
      ap (λ (k : ℕ). stored u s c k (next st.trace) room) e
    where
      value_eq : (a a' b b' M : ℕ) → a ≡ a' → b ≡ b' → M ≡ (part u).modulus → (a + b) % M ≡ (a' + b') % (part u).modulus
      value_eq a a' b b' M p q z = cc

  pub index_joined : Joined u (mv.index_store s (whom u c) (next st.trace) room) st xs (step_at u c st 0)
  index_joined =
      let t : Trace = st.trace in
      let q : Queue = st.queue in
      let n : ℕ = get_or (sizes_of u c) (core_at s (seat u c)).batch 0 in
      let rest : List ℕ = drop ((core_at s (seat u c)).batch + 1) (sizes_of u c) in
      let v : ℕ = ((q.side c).own + n) % (part u).modulus in
      let a : Act = store c (index u.ring c) v in
      let me : Side = record { batches = rest; phase = start; own = (q.side c).own; cached = (q.side c).cached; moved = []; completed = (q.side c).completed ++ (q.side c).moved } in
      let d : rc.Core = mv.completed (core_at s (seat u c)) in
      let z = done_facts g r h c more in
      let sz = rw ep at (r.core_is c).sized in
      let moved : (core_at s (seat u c)).moved ≡ i = (r.core_is c).moved_is ∙ ap progress ep in
      let ex : step_at u c st 0 ≡ performed u.ring index_stored a (pl.turned q c me q.feed) =
      step_is u st c 0 h ∙ ap (decided (shape u).orders u.ring c q t)
      (ap (pl.of_batches (shape u) u.ring c q t 0) ((r.core_is c).batches_are ∙ batches_cons (sizes_of u c) (core_at s (seat u c)).batch more)
      ∙ ap (pl.in_batch (shape u) u.ring c q t 0 n rest) ep
      ∙ ap (λ (b : Bool). cond b (pl.data_access (shape u) u.ring c q t n rest i) (pl.index_store (shape u) u.ring c q n rest)) (le-ltb i n past)) in
      let s' : Ring = stored u s c v (next t) room in
      let few : (list_of u s c).count < 256 = omega (arith, r.list_few c, g.few c) in
      rw (store_ring v refl, ex) (record {
        rep = moved_kept r h (record {
          shape_same = (refl, refl, refl);
          unraced = (r.quiet h).0;
          cores_are = refl;
          sides_are = refl;
          acts = refl;
          plain = omega arith;
          core_new = done_core g r h c more a refl i ep past;
          lists_new = both (λ (e : Core). Listed (part u).modulus (a ∷ t) (index u.ring e) (list_of u s' e)) c
              (rw (stored_mine u s c v (next t) room few) (listed_new c v (mod-lt ((q.side c).own + n) (omega (arith, g.modulus_low))) few (r.list_is c)))
              (rw (stored_other u s c v (next t) room) (listed_old a (not_theirs u.ring c v) (r.list_is (other c))));
          read_new = rw (stored_other u s c v (next t) room, z.6) (read_kept a t c (index u.ring (other c)) refl (r.read_is c));
          still_read = λ p e w. rw (stored_mine u s c v (next t) room few) (record {
            inside = omega (arith, w.inside);
            entry_is = get_or-set_other (list_of u s c).entries (list_of u s c).count p (next t) 0 (λ q. omega (arith, w.inside, q)) ∙ w.entry_is;
          });
          few_new = rw (stored_mine u s c v (next t) room few) (omega (arith, r.list_few c, z));
          few_other = ap (λ (l : Stores). l.count) (stored_other u s c v (next t) room);
          bytes_new = r.bytes_are;
          lately_new = lately_kept a (λ e y. no_slot e c y) (r.lately h);
          feed_new = r.feed_is ∙ ap (λ (k : ℕ). drop k (part u).push_bytes) (sym (feed_keeps u s.cores r.two_cores c d (omega (arith, z, moved, sz.1, sz.2, past))));
          out_new = r.out_long ∙ sym (out_keeps u s.cores r.two_cores c d (omega (arith, z, moved, sz.1, sz.2, past)));
          failed_new = omega (arith, z);
          largest_new = omega (arith, z);
        });
        mark_is = refl;
        performs = refl;
        out_is = sym (append-nil q.out);
        race_is = (r.quiet h).0;
        of-ring = refl;
        running = h;
      })

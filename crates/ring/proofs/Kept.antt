-- What every step keeps, from what it changes: a refused entry, a move that does not race, and a race.
use mathlib.Core.Path.{◌≡◌, refl, ap, sym, ◌∙◌}
use mathlib.Core.Bool.{false, cond}
use mathlib.Core.Option.{some}
use mathlib.Core.List.{List, [], ◌∷◌, ◌++◌}
use Prim.Native.Nat.{ℕ, ◌+◌, ◌<◌, ◌≤◌, max}
use native.Mathlib.Omega.{arith}
use lib.Dec.{eqb}
use lib.ListN.{get_or, set, length, drop, length-set}
use borrow.Author.Tests.{ne_eqb}
use Rattle.order.specs.Trace.{Core, other, index, Act, idle, who, stores_to}
use Rattle.order.specs.computed.Record.{learn, reads, seen}
use Rattle.order.proofs.Trace.{clash, other_other, or_false, and_false, and_with, same_other, same_self}
use Rattle.model.proofs.Sides.{with_same, with_other}
use Rattle.model.specs.Marks.{batch_failed, race_found, no_such_core}
use Rattle.model.specs.Queue.{Side, Queue, with_side}
use Rattle.model.specs.Run.{Result, refused, performed, raced, fresh_queue}
use Rattle.model.specs.Report.{one, count, marked, marked_of, missed, largest_shortfall, partner_of}
use Rattle.model.proofs.Shortfall.{last_queue, last_more, failed_by, largest_more}
use Rattle.std.specs.Prelude.{None}
use Rattle.ring.specs.Raced.{race_partner}
use Rattle.ring.specs.declared.state.Core as rc
use Rattle.ring.specs.declared.state.Ring.{Ring}
use Rattle.ring.specs.computed.State.{fresh_core, core_at}
use Rattle.ring.proofs.Site.{Site, part, shape, producer, consumer, seat, Local, onward}
use Rattle.ring.proofs.Lists.{Listed, listed_old, ReadTo}
use Rattle.ring.proofs.Rep.{list_of, list_same, other_reads_nothing, read_kept, CoreRep, Bytes, Lately, Rep, put_same, put_other, both, other_learns_nothing, core_kept, lately_kept, count_more, with_stays, partner_more, partner_stays}

-- A refused entry.
pub refused_kept : {u : Site} {s : Ring} {st : Local} {xs : List Result} → Rep u s st xs → (n : ℕ) → no_such_core ≤ n
    → Rep u s (onward st (refused u.ring st.queue n)) (xs ++ (refused u.ring st.queue n ∷ []))
refused_kept {u} {s} {st} {xs} r n l =
    let x = refused u.ring st.queue n in
    let e7 : eqb n race_found ≡ false = ne_eqb n race_found (λ z. omega arith) in
    let e3 : eqb n batch_failed ≡ false = ne_eqb n batch_failed (λ z. omega arith) in
    let still = with_stays (marked race_found) 1 xs x e7 in
    let same : (onward st x).halted ≡ st.halted = rw e7 (or_false st.halted) in
    record {
      size_is = r.size_is;
      modulus_is = r.modulus_is;
      orders_are = r.orders_are;
      quiet = λ k. let q = r.quiet (sym same ∙ k) in (q.0, still ∙ q.1);
      two_cores = r.two_cores;
      core_is = λ c. core_kept idle refl (r.core_is c);
      list_is = λ c. listed_old idle refl (r.list_is c);
      read_is = λ c. read_kept idle st.trace c (index u.ring (other c)) refl (r.read_is c);
      list_few = r.list_few;
      bytes_are = r.bytes_are;
      lately = λ h. lately_kept idle (λ c y. refl) (r.lately (sym same ∙ h));
      feed_is = r.feed_is;
      out_long = r.out_long;
      failed_is = λ c. let k = count_more (marked_of c batch_failed) xs x in
          let z : one (marked_of c batch_failed x) ≡ 0 = rw e3 in omega (arith, r.failed_is c);
      queue_is = last_more (fresh_queue u.ring (part u)) xs x;
      largest_is = λ c. let z : failed_by (shape u) u.ring c (last_queue (fresh_queue u.ring (part u)) xs) x ≡ 0 = rw e3 in
          omega (arith, r.largest_is c, largest_more (shape u) u.ring c (fresh_queue u.ring (part u)) xs x);
      partner_is = r.partner_is ∙ sym (partner_stays xs x e7);
    }

-- A move of core c that does not race: what is new after it.
pub record Moves (u : Site) (s s' : Ring) (st : Local) (c : Core) (a : Act) (mark : ℕ) (q : Queue) (d : rc.Core) (me : Side) : Type 0 where
  pub shape_same : (s'.size ≡ s.size) × (s'.modulus ≡ s.modulus) × (s'.orders ≡ s.orders)
  pub unraced : s'.race ≡ None
  pub cores_are : s'.cores ≡ set s.cores (seat u c) d
  pub sides_are : q.side ≡ with_side st.queue.side c me
  pub acts : who a ≡ some c
  pub plain : mark < race_found
  pub core_new : CoreRep u (a ∷ st.trace) c d me
  pub lists_new : (e : Core) → Listed (part u).modulus (a ∷ st.trace) (index u.ring e) (list_of u s' e)
  pub read_new : ReadTo (list_of u s' (other c)) d.read (seen (a ∷ st.trace) c (index u.ring (other c)))
  pub still_read : (p e : ℕ) → ReadTo (list_of u s c) p e → ReadTo (list_of u s' c) p e
  pub few_new : (list_of u s' c).count ≤ 1 + d.batch
  pub few_other : (list_of u s' (other c)).count ≡ (list_of u s (other c)).count
  pub bytes_new : Bytes (part u).size s'.slots q.slots
  pub lately_new : Lately u (a ∷ st.trace) s'.slots
  pub feed_new : q.feed ≡ drop ((core_at s' (seat u (producer u))).passed + (core_at s' (seat u (producer u))).moved) (part u).push_bytes
  pub out_new : length q.out ≡ (core_at s' (seat u (consumer u))).done + (core_at s' (seat u (consumer u))).moved
  pub failed_new : d.failed ≡ (core_at s (seat u c)).failed + one (eqb mark batch_failed)
  pub largest_new : d.largest ≡ max (core_at s (seat u c)).largest (cond (eqb mark batch_failed) (missed (shape u) u.ring c (st.queue.side c).batches me) 0)

pub moved_kept : {u : Site} {s s' : Ring} {st : Local} {xs : List Result} {c : Core} {a : Act} {mark : ℕ} {q : Queue} {d : rc.Core} {me : Side}
    → Rep u s st xs → st.halted ≡ false → Moves u s s' st c a mark q d me
    → Rep u s' (onward st (performed u.ring mark a q)) (xs ++ (performed u.ring mark a q ∷ []))
moved_kept {u} {s} {s'} {st} {xs} {c} {a} {mark} {q} {d} {me} r h m =
    let x = performed u.ring mark a q in
    let e7 : eqb mark race_found ≡ false = ne_eqb mark race_found (λ z. omega (arith, m.plain)) in
    let still = with_stays (marked race_found) 1 xs x e7 in
    let running : (onward st x).halted ≡ false = rw (h, e7) in
    let mine : core_at s' (seat u c) ≡ d = ap (λ l. get_or l (seat u c) fresh_core) m.cores_are ∙ put_same u s.cores c d r.two_cores in
    let theirs : core_at s' (seat u (other c)) ≡ core_at s (seat u (other c)) = ap (λ l. get_or l (seat u (other c)) fresh_core) m.cores_are ∙ put_other u s.cores c d in
    let my_side : q.side c ≡ me = ap (λ (w : Core → Side). w c) m.sides_are ∙ with_same st.queue.side c me in
    let their_side : q.side (other c) ≡ st.queue.side (other c) = ap (λ (w : Core → Side). w (other c)) m.sides_are ∙ with_other st.queue.side c me in
    let partner0 : 0 ≡ partner_of xs = sym (ap race_partner (r.quiet h).0) ∙ r.partner_is in
    record {
      size_is = m.shape_same.0 ∙ r.size_is;
      modulus_is = m.shape_same.1 ∙ r.modulus_is;
      orders_are = m.shape_same.2 ∙ r.orders_are;
      quiet = λ _. (m.unraced, still ∙ (r.quiet h).1);
      two_cores = ap length m.cores_are ∙ length-set s.cores (seat u c) d ∙ r.two_cores;
      core_is = both (λ (e : Core). CoreRep u (a ∷ st.trace) e (core_at s' (seat u e)) (q.side e)) c
          (rw (mine, my_side) m.core_new)
          (rw (theirs, their_side) (core_kept a (other_learns_nothing a c m.acts (shape u).orders) (r.core_is (other c))));
      list_is = m.lists_new;
      read_is = both (λ (e : Core). ReadTo (list_of u s' (other e)) (core_at s' (seat u e)).read (seen (a ∷ st.trace) e (index u.ring (other e)))) c
          (rw mine m.read_new)
          (rw (theirs, other_other c) (read_kept a st.trace (other c) (index u.ring c) (other_reads_nothing a c m.acts (index u.ring c))
          (m.still_read (core_at s (seat u (other c))).read (seen st.trace (other c) (index u.ring c)) (rw (other_other c) at (r.read_is (other c))))));
      list_few = both (λ (e : Core). (list_of u s' e).count ≤ 1 + (core_at s' (seat u e)).batch) c
          (rw mine m.few_new) (rw (theirs, m.few_other) (r.list_few (other c)));
      bytes_are = m.bytes_new;
      lately = λ _. m.lately_new;
      feed_is = m.feed_new;
      out_long = m.out_new;
      failed_is = both (λ (e : Core). (core_at s' (seat u e)).failed ≡ count (marked_of e batch_failed) (xs ++ (x ∷ []))) c
          (let k = count_more (marked_of c batch_failed) xs x in
          let z : one (marked_of c batch_failed x) ≡ one (eqb mark batch_failed) = rw (m.acts, same_self c, and_with (eqb mark batch_failed)) in
          let w : (core_at s' (seat u c)).failed ≡ d.failed = ap (λ (b : rc.Core). b.failed) mine in
          omega (arith, r.failed_is c, m.failed_new))
          (let k = count_more (marked_of (other c) batch_failed) xs x in
          let z : one (marked_of (other c) batch_failed x) ≡ 0 = rw (m.acts, same_other c, and_false (eqb mark batch_failed)) in
          let w : (core_at s' (seat u (other c))).failed ≡ (core_at s (seat u (other c))).failed = ap (λ (b : rc.Core). b.failed) theirs in
          omega (arith, r.failed_is (other c)));
      queue_is = last_more (fresh_queue u.ring (part u)) xs x;
      largest_is = both (λ (e : Core). (core_at s' (seat u e)).largest ≡ largest_shortfall (shape u) u.ring (part u) e (xs ++ (x ∷ []))) c
          (let k = largest_more (shape u) u.ring c (fresh_queue u.ring (part u)) xs x in
          let z : failed_by (shape u) u.ring c (last_queue (fresh_queue u.ring (part u)) xs) x ≡ cond (eqb mark batch_failed) (missed (shape u) u.ring c (st.queue.side c).batches me) 0 =
          rw (r.queue_is, my_side, m.acts, same_self c, and_with (eqb mark batch_failed)) in
          let w : (core_at s' (seat u c)).largest ≡ d.largest = ap (λ (b : rc.Core). b.largest) mine in
          omega (arith, r.largest_is c, m.largest_new))
          (let k = largest_more (shape u) u.ring (other c) (fresh_queue u.ring (part u)) xs x in
          let z : failed_by (shape u) u.ring (other c) (last_queue (fresh_queue u.ring (part u)) xs) x ≡ 0 = rw (m.acts, same_other c, and_false (eqb mark batch_failed)) in
          let w : (core_at s' (seat u (other c))).largest ≡ (core_at s (seat u (other c))).largest = ap (λ (b : rc.Core). b.largest) theirs in
          omega (arith, r.largest_is (other c)));
      partner_is = ap race_partner m.unraced ∙ partner0 ∙ sym (partner_stays xs x e7);
    }

-- A race: the access joins the trace, the pair is noted, and nothing else changes.
pub raced_kept : {u : Site} {s s' : Ring} {st : Local} {xs : List Result} {c : Core} {a : Act} {i : ℕ}
    → Rep u s st xs → st.halted ≡ false → who a ≡ some c → learn (shape u).orders c a ≡ 0 → ((e : Core) → stores_to (index u.ring e) a ≡ false) → reads c (index u.ring (other c)) a ≡ 0
    → s'.size ≡ s.size → s'.modulus ≡ s.modulus → s'.orders ≡ s.orders → s'.slots ≡ s.slots → s'.cores ≡ s.cores
    → s'.back ≡ s.back → s'.front ≡ s.front → race_partner s'.race ≡ i
    → Rep u s' (onward st (raced u.ring a st.queue i)) (xs ++ (raced u.ring a st.queue i ∷ []))
raced_kept {u} {s} {s'} {st} {xs} {c} {a} {i} r h acts learns stores reads_none e1 e2 e3 e4 e5 e6 e7 e9 =
    let x = raced u.ring a st.queue i in
    let more = partner_more 1 xs x (omega arith) (r.quiet h).1 in
    let core : (e : Core) → core_at s' (seat u e) ≡ core_at s (seat u e) = λ e. ap (λ l. get_or l (seat u e) fresh_core) e5 in
    let learns_not : (e : Core) → learn (shape u).orders e a ≡ 0 = both (λ (e : Core). learn (shape u).orders e a ≡ 0) c learns (other_learns_nothing a c acts (shape u).orders) in
    let reads_not : (e : Core) → reads e (index u.ring (other e)) a ≡ 0 = both (λ (e : Core). reads e (index u.ring (other e)) a ≡ 0) c reads_none
    (other_reads_nothing a c acts (index u.ring (other (other c)))) in
    let same_list : (e : Core) → list_of u s' e ≡ list_of u s e = list_same u s s' e6 e7 in
    let c0 = core (producer u) in
    let c1 = core (consumer u) in
    record {
      size_is = e1 ∙ r.size_is;
      modulus_is = e2 ∙ r.modulus_is;
      orders_are = e3 ∙ r.orders_are;
      quiet = λ k. clash (cc);
      two_cores = rw e5 r.two_cores;
      core_is = λ e. rw (core e) (core_kept a (learns_not e) (r.core_is e));
      list_is = λ e. rw (same_list e) (listed_old a (stores e) (r.list_is e));
      read_is = λ e. rw (core e, same_list (other e)) (read_kept a st.trace e (index u.ring (other e)) (reads_not e) (r.read_is e));
      list_few = λ e. rw (same_list e, core e) (r.list_few e);
      bytes_are = rw e4 r.bytes_are;
      lately = λ k. clash (cc);
      feed_is = rw c0 r.feed_is;
      out_long = rw c1 r.out_long;
      failed_is = λ e. let k = count_more (marked_of e batch_failed) xs x in
          let w : (core_at s' (seat u e)).failed ≡ (core_at s (seat u e)).failed = ap (λ (b : rc.Core). b.failed) (core e) in
          omega (arith, r.failed_is e);
      queue_is = last_more (fresh_queue u.ring (part u)) xs x;
      largest_is = λ e. let k = largest_more (shape u) u.ring e (fresh_queue u.ring (part u)) xs x in
          let w : (core_at s' (seat u e)).largest ≡ (core_at s (seat u e)).largest = ap (λ (b : rc.Core). b.largest) (core e) in
          omega (arith, r.largest_is e);
      partner_is = e9 ∙ sym more;
    }

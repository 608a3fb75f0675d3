-- How the code's state stands for the definition's: the relation that every step keeps. No function's contract mentions it.
use mathlib.Core.Path.{◌≡◌, refl, sym, ◌∙◌}
use mathlib.Core.Bool.{Bool, true, false, cond}
use mathlib.Core.Option.{some}
use mathlib.Core.List.{List, [], ◌∷◌, ◌++◌}
use Prim.Native.Nat.{ℕ, suc, ◌+◌, ◌<◌, ◌≤◌}
use native.Mathlib.Omega.{arith}
use lib.ListN.{get_or, set, length, take, drop, length-append}
use Rattle.std.specs.Prelude.{None}
use lib.Seq.{get_or-set_same, get_or-set_other}
use Rattle.order.specs.Trace.{Core, core0, core1, other, Place, index, slot, Act, idle, load, store, Trace, who, accesses}
use Rattle.order.specs.Order.{Orders}
use Rattle.order.specs.computed.Record.{know, learn, reads, seen, rival}
use Rattle.order.proofs.Trace.{clash}
use Rattle.model.specs.File.{total}
use Rattle.model.specs.Marks.{batch_failed, race_found}
use Rattle.model.specs.Queue.{Phase, start, reload, moving, Side, pushes}
use Rattle.model.specs.Run.{Result, fresh_queue}
use Rattle.model.specs.Report.{one, count, entry_with, marked, marked_of, partner_of, largest_shortfall}
use Rattle.model.proofs.OneRing.{race_from}
use Rattle.model.proofs.Total.{total_small}
use Rattle.model.proofs.Shortfall.{last_queue}
use Rattle.ring.specs.declared.state.Slot.{Slot}
use Rattle.ring.specs.declared.state.Stores.{Stores}
use Rattle.ring.specs.declared.state.Core as rc
use Rattle.ring.specs.declared.state.Ring.{Ring}
use Rattle.ring.specs.Raced.{race_partner}
use Rattle.ring.specs.computed.Orders.{orders_of}
use Rattle.ring.specs.computed.State.{fresh_slot, fresh_core, core_at, Bounded}
use Rattle.ring.proofs.Site.{Site, part, shape, producer, consumer, seat_of, seat, sizes_of, Fit, Local, seat_lt}
use Rattle.ring.proofs.Parts.{phase_of, progress}
use Rattle.ring.proofs.Lists.{Listed, ReadTo}

abbrev pub list_of : Site → Ring → Core → Stores
list_of u s c = cond (pushes u.ring c) s.back s.front

-- One core moves and no list: both lists are what they were.
pub list_same : (u : Site) (s s' : Ring) → s'.back ≡ s.back → s'.front ≡ s.front → (e : Core) → list_of u s' e ≡ list_of u s e
list_same u s s' p q e = go (pushes u.ring e)
  where
    go : (b : Bool) → cond b s'.back s'.front ≡ cond b s.back s.front
    go true = p
    go false = q

-- Past its own load a core has a batch, and holds its size.
abbrev pub Sized : List ℕ → (batch size : ℕ) → Phase → Type 0
Sized l b n start = Unit {0}
Sized l b n reload = (b < length l) × (n ≡ get_or l b 0) × (0 < n)
Sized l b n (moving i) = (b < length l) × (n ≡ get_or l b 0) × (i ≤ n)

-- One core.
pub record CoreRep (u : Site) (t : Trace) (c : Core) (d : rc.Core) (me : Side) : Type 0 where
  pub phase_is : d.phase ≡ phase_of d.size me.phase
  pub moved_is : d.moved ≡ progress me.phase
  pub batches_are : me.batches ≡ drop d.batch (sizes_of u c)
  pub batch_le : d.batch ≤ length (sizes_of u c)
  pub sized : Sized (sizes_of u c) d.batch d.size me.phase
  pub size_lt : d.size < 256
  pub own_is : d.own ≡ me.own
  pub own_lt : me.own < (part u).modulus
  pub cached_is : d.cached ≡ me.cached
  pub known_is : d.known ≡ know (shape u).orders t c
  pub passed_is : d.passed ≡ total (take d.batch (sizes_of u c))
  pub done_is : d.done ≡ length me.completed
  pub done_le : d.done ≤ d.passed
  pub bytes_moved : length me.moved ≡ d.moved
  pub failed_le : d.failed ≤ d.batch

-- The slots' bytes; and, while no access has raced, their latest accesses.
pub record Bytes (m : ℕ) (slots : List Slot) (bytes : List ℕ) : Type 0 where
  pub slots_long : length slots ≡ 128
  pub bytes_long : length bytes ≡ m
  pub byte_is : (y : ℕ) → y < m → (get_or slots y fresh_slot).byte ≡ get_or bytes y 0
  pub byte_lt : (y : ℕ) → y < m → get_or bytes y 0 < 256

pub record Lately (u : Site) (t : Trace) (slots : List Slot) : Type 0 where
  pub stored_is : (y : ℕ) → y < (part u).size → (get_or slots y fresh_slot).stored ≡ rival t (consumer u) (slot u.ring y) false
  pub loaded_is : (y : ℕ) → y < (part u).size → (get_or slots y fresh_slot).loaded ≡ rival t (producer u) (slot u.ring y) true

-- The struct s stands for the ring in the definition's state st, xs being the results so far that count for it.
pub record Rep (u : Site) (s : Ring) (st : Local) (xs : List Result) : Type 0 where
  pub size_is : s.size ≡ (part u).size
  pub modulus_is : s.modulus ≡ (part u).modulus
  pub orders_are : s.orders ≡ orders_of (part u).bits
  pub quiet : st.halted ≡ false → (s.race ≡ None) × (race_from 1 xs ≡ 0)
  pub two_cores : length s.cores ≡ 2
  pub core_is : (c : Core) → CoreRep u st.trace c (core_at s (seat u c)) (st.queue.side c)
  pub list_is : (c : Core) → Listed (part u).modulus st.trace (index u.ring c) (list_of u s c)
  pub read_is : (c : Core) → ReadTo (list_of u s (other c)) (core_at s (seat u c)).read (seen st.trace c (index u.ring (other c)))
  pub list_few : (c : Core) → (list_of u s c).count ≤ 1 + (core_at s (seat u c)).batch
  pub bytes_are : Bytes (part u).size s.slots st.queue.slots
  pub lately : st.halted ≡ false → Lately u st.trace s.slots
  pub feed_is : st.queue.feed ≡ drop ((core_at s (seat u (producer u))).passed + (core_at s (seat u (producer u))).moved) (part u).push_bytes
  pub out_long : length st.queue.out ≡ (core_at s (seat u (consumer u))).done + (core_at s (seat u (consumer u))).moved
  pub failed_is : (c : Core) → (core_at s (seat u c)).failed ≡ count (marked_of c batch_failed) xs
  pub queue_is : last_queue (fresh_queue u.ring (part u)) xs ≡ st.queue
  pub largest_is : (c : Core) → (core_at s (seat u c)).largest ≡ largest_shortfall (shape u) u.ring (part u) c xs
  pub partner_is : race_partner s.race ≡ partner_of xs

-- What the moves ask follows.

module _ {u : Site} (g : Fit u) {s : Ring} {st : Local} {xs : List Result} (r : Rep u s st xs) where
  pub size_pos : 0 < s.size
  size_pos = omega (arith, r.size_is, g.some_slot)

  pub size_le : s.size ≤ 128
  size_le = omega (arith, r.size_is, g.slots)

  pub modulus_pos : 0 < s.modulus
  modulus_pos = omega (arith, r.modulus_is, g.modulus_low)

  pub modulus_le : s.modulus ≤ 65536
  modulus_le = omega (arith, r.modulus_is, g.modulus_high)

pub bounded : {u : Site} {s : Ring} {st : Local} {xs : List Result} → Fit u → Rep u s st xs → (c : Core)
    → (core_at s (seat u c)).batch < length (sizes_of u c) → Bounded (core_at s (seat u c))
bounded {u} {s} g r c more =
    let d = r.core_is c in
    let small = total_small (sizes_of u c) (core_at s (seat u c)).batch (g.small c) in
    let few = g.few c in
    record {
      batch_lt = omega arith;
      size_lt = d.size_lt;
      passed_le = omega (arith, d.passed_is);
      done_le = omega (arith, d.passed_is, d.done_le);
      failed_le = d.failed_le;
    }

-- Putting a core.

pub put_same : (u : Site) (l : List rc.Core) (c : Core) (d : rc.Core) → length l ≡ 2 → get_or (set l (seat u c) d) (seat u c) fresh_core ≡ d
put_same u l c d e = get_or-set_same l (seat u c) d fresh_core (omega (arith, seat_lt u c))

pub put_other : (u : Site) (l : List rc.Core) (c : Core) (d : rc.Core)
    → get_or (set l (seat u c) d) (seat u (other c)) fresh_core ≡ get_or l (seat u (other c)) fresh_core
put_other u l c d = get_or-set_other l (seat u c) (seat u (other c)) d fresh_core (λ e. go (producer u) c e)
  where
    go : (p c : Core) → ¬ (seat_of p (other c) ≡ seat_of p c)
    go core0 core0 e = clash (sym e)
    go core0 core1 e = clash e
    go core1 core0 e = clash e
    go core1 core1 e = clash (sym e)

-- Of both cores, from the one that moved and the other.
pub both : (P : Core → Type 0) (c : Core) → P c → P (other c) → (d : Core) → P d
both P core0 p q core0 = p
both P core0 p q core1 = q
both P core1 p q core0 = q
both P core1 p q core1 = p

pub other_learns_nothing : (a : Act) (c : Core) → who a ≡ some c → (o : Orders) → learn o (other c) a ≡ 0
other_learns_nothing idle c e o = refl
other_learns_nothing (store d x v) c e o = refl
other_learns_nothing (load core0 x s) core0 e o = refl
other_learns_nothing (load core1 x s) core1 e o = refl
other_learns_nothing (load core0 x s) core1 e o = clash (cc)
other_learns_nothing (load core1 x s) core0 e o = clash (cc)

pub other_reads_nothing : (a : Act) (c : Core) → who a ≡ some c → (x : Place) → reads (other c) x a ≡ 0
other_reads_nothing idle c e x = refl
other_reads_nothing (store d y v) c e x = refl
other_reads_nothing (load core0 y s) core0 e x = refl
other_reads_nothing (load core1 y s) core1 e x = refl
other_reads_nothing (load core0 y s) core1 e x = clash (cc)
other_reads_nothing (load core1 y s) core0 e x = clash (cc)

-- An action by which the core reads nothing of a list.
pub read_kept : (a : Act) (t : Trace) {l : Stores} {p : ℕ} (c : Core) (x : Place) → reads c x a ≡ 0 → ReadTo l p (seen t c x) → ReadTo l p (seen (a ∷ t) c x)
read_kept a t c x e h = record { inside = h.inside; entry_is = omega (arith, h.entry_is) }

-- A core that the action teaches nothing.
pub core_kept : {u : Site} (a : Act) {t : Trace} {c : Core} {d : rc.Core} {me : Side} → learn (shape u).orders c a ≡ 0
    → CoreRep u t c d me → CoreRep u (a ∷ t) c d me
core_kept a e h = record {
  phase_is = h.phase_is;
  moved_is = h.moved_is;
  batches_are = h.batches_are;
  batch_le = h.batch_le;
  sized = h.sized;
  size_lt = h.size_lt;
  own_is = h.own_is;
  own_lt = h.own_lt;
  cached_is = h.cached_is;
  known_is = h.known_is ∙ omega (arith, e);
  passed_is = h.passed_is;
  done_is = h.done_is;
  done_le = h.done_le;
  bytes_moved = h.bytes_moved;
  failed_le = h.failed_le;
}

-- An action that accesses no slot leaves the latest accesses.
pub lately_kept : (a : Act) {u : Site} {t : Trace} {l : List Slot} → ((c : Core) (y : ℕ) → accesses c (slot u.ring y) a ≡ false) → Lately u t l → Lately u (a ∷ t) l
lately_kept a {u} e h = record {
  stored_is = λ y l. h.stored_is y l ∙ rw (e (other (consumer u)) y);
  loaded_is = λ y l. h.loaded_is y l ∙ rw (e (other (producer u)) y);
}

-- One result more

pub count_more : (p : Result → Bool) (xs : List Result) (x : Result) → count p (xs ++ (x ∷ [])) ≡ count p xs + one (p x)
count_more p [] x = omega arith
count_more p (y ∷ xs) x = let ih = count_more p xs x in omega arith

-- The first result that passes a test: one result more, where none has passed, and a result that does not.
pub with_more : (p : Result → Bool) (n : ℕ) (xs : List Result) (x : Result) → 0 < n → entry_with p n xs ≡ 0
    → entry_with p n (xs ++ (x ∷ [])) ≡ cond (p x) (n + length xs) 0
with_more p n [] x l e = go (p x)
  where
    go : (b : Bool) → cond b n 0 ≡ cond b (n + 0) 0
    go true = omega arith
    go false = refl
with_more p n (y ∷ xs) x l e = go (p y) refl e (with_more p (suc n) xs x (omega arith))
  where
    go : (b : Bool) → p y ≡ b → cond b n (entry_with p (suc n) xs) ≡ 0
        → (entry_with p (suc n) xs ≡ 0 → entry_with p (suc n) (xs ++ (x ∷ [])) ≡ cond (p x) (suc n + length xs) 0)
        → entry_with p n ((y ∷ xs) ++ (x ∷ [])) ≡ cond (p x) (n + suc (length xs)) 0
    go true k h more = absurd (omega arith)
    go false k h more = let s : suc n + length xs ≡ n + suc (length xs) = omega arith in rw (k, ← s) (more h)

pub with_stays : (p : Result → Bool) (n : ℕ) (xs : List Result) (x : Result) → p x ≡ false → entry_with p n (xs ++ (x ∷ [])) ≡ entry_with p n xs
with_stays p n [] x e = rw e
with_stays p n (y ∷ xs) x e = rw (with_stays p (suc n) xs x e)

-- The same of the partner.
pub partner_more : (n : ℕ) (xs : List Result) (x : Result) → 0 < n → race_from n xs ≡ 0 → partner_of (xs ++ (x ∷ [])) ≡ cond (marked race_found x) x.partner 0
partner_more n [] x l e = refl
partner_more n (y ∷ xs) x l e = go (marked race_found y) refl e (partner_more (suc n) xs x (omega arith))
  where
    go : (b : Bool) → marked race_found y ≡ b → cond b n (race_from (suc n) xs) ≡ 0
        → (race_from (suc n) xs ≡ 0 → partner_of (xs ++ (x ∷ [])) ≡ cond (marked race_found x) x.partner 0)
        → partner_of ((y ∷ xs) ++ (x ∷ [])) ≡ cond (marked race_found x) x.partner 0
    go true k h more = absurd (omega arith)
    go false k h more = rw k (more h)

pub partner_stays : (xs : List Result) (x : Result) → marked race_found x ≡ false → partner_of (xs ++ (x ∷ [])) ≡ partner_of xs
partner_stays [] x e = rw e
partner_stays (y ∷ xs) x e = rw (partner_stays xs x e)

pub length_more : {A : Type 0} (xs : List A) (x : A) → length (xs ++ (x ∷ [])) ≡ suc (length xs)
length_more xs x = length-append xs (x ∷ []) ∙ omega arith

-- The shortfalls, in numbers that do not wrap.
use mathlib.Core.Path.{◌≡◌, refl, sym, ap, ◌∙◌, subst}
use mathlib.Core.Logic.{inl, inr}
use mathlib.Core.Bool.{Bool, true, false}
use mathlib.Core.List.{List, [], ◌∷◌, ◌++◌, append-nil, append_assoc}
use Prim.Native.Nat.{ℕ, suc, ◌+◌, ◌-◌, ◌%◌, ◌≤◌}
use native.Mathlib.Omega.{arith}
use lib.ListN.{length, take, length-append}
use lib.Dec.{eqb}
use lib.Seq.{take-append-le, take_all}
use borrow.Author.Tests.{eqb-true, eqb-false}
use Rattle.order.specs.Trace.{Core, other, same_core, Ring, index, load, Trace, act, stores_to, value_of}
use Rattle.order.specs.Order.{Orders}
use Rattle.order.proofs.Trace.{clash, and_true, same_true, newest, older, store-at, StoreOf}
use Rattle.model.specs.File.{Entry, total, Part, part_of}
use Rattle.model.specs.Queue.{Named, nobody, named, Shape, start, Side, Queue, with_queue, lead, shortfall}
use Rattle.model.specs.Plan.{Plan}
use Rattle.model.specs.Run.{Result, Does, State, after, first_ring, names_one, Entered, Step, Runs, stop, move, machine_of, fresh_of}
use Rattle.model.specs.Report.{missed}
use Rattle.model.specs.PairFile.{second_ring, parts_of, names_pair}
use Rattle.model.proofs.Plan.{Planned, no_batch, no_age, past, owning, failing, keeping, storing, loading, completing, planned}
use Rattle.model.proofs.Rings.{ring_of, step-at, stores_not, with_here, run_turns}
use Rattle.model.proofs.Sides.{with_same}
use Rattle.model.proofs.Report.{completed_bytes}
use Rattle.model.proofs.Shortfall.{Lost, step_lost, lost_by, lost_some, none_lost}
use Rattle.promises.specs.Strong.{all_strong}
use Rattle.promises.specs.Shortfall.{FailsBy, ShortfallFits, NoneFailed, done_by, TellsMissing, StrongShortfall, StrongPairShortfall}
use Rattle.promises.proofs.Count.{up_to, up_to-old, up_to-all, up_to-zero}
use Rattle.promises.proofs.Log.{store_value, store_le}
use Rattle.promises.proofs.Half.{progress, room-of, forward}
use Rattle.promises.proofs.Invariant.{Invariant}
use Rattle.promises.proofs.Strong.{Fair, fair_sizes, holds as live, calm, lawful_fair}
use Rattle.promises.proofs.Pair.{pair_fair, pair_strong}

-- Where a batch failed: the entry is of the ring whose index was read.
lost_here : (g : Shape) (s : State) (e : Entry) (x : Result) → Step g s e x → (r : Ring) (c : Core) (n d k : ℕ) → FailsBy g r (s.queue r) x c n d k
    → Lost g r c (s.queue r) s.trace x
lost_here g s e x d r c n m k h =
    let z = step_lost g s e x d c h.failed in
    let w : load c (index (ring_of (g.names e.core)) (other c)) z.from ≡ load c (index r (other c)) k = sym z.did_is ∙ h.read in
    let same : ring_of (g.names e.core) ≡ r = cc in
    subst (λ (p : Ring). Lost g p c (s.queue p) s.trace x) same z

-- The size that a failed batch is said to have is its size.
same_size : {g : Shape} {r : Ring} {q : Queue} {t : Trace} {x : Result} {c : Core} {n d k : ℕ} → FailsBy g r q x c n d k → (l : Lost g r c q t x)
    → (n ≡ l.size) × (d ≡ missed g r c (q.side c).batches (x.queue.side c)) × (k ≡ l.from)
same_size h l =
    let e = sym h.batch_is ∙ l.had in
    let w = sym h.read ∙ l.did_is in
    (cc, rw h.batch_is h.by, cc)

pub shortfall_fits : ShortfallFits
shortfall_fits g s e x d r c n m k h =
    let l = lost_here g s e x d r c n m k h in
    let z = same_size h l in
    let b = lost_some l in
    (omega arith, omega arith)

pub none_failed : NoneFailed
none_failed p names es xs s run r c = none_lost c (run_turns r run)

-- Runs by their last entry

run_more : {g : Shape} {s z : State} {es : List Entry} {xs : List Result} → Runs g s es xs z → (e : Entry) (x : Result) → Step g z e x
    → Runs g s (es ++ (e ∷ [])) (xs ++ (x ∷ [])) (after z x)
run_more stop e x d = move d stop
run_more (move a p) e x d = move a (run_more p e x d)

-- What holds at the beginning and is kept by each entry of a run holds at its end.
module _ {g : Shape} (a : State) (Q : List Result → State → Type 0)
    (keeps : (es : List Entry) (xs : List Result) (s : State) (e : Entry) (x : Result) → Runs g a es xs s → Step g s e x → Q xs s
    → Q (xs ++ (x ∷ [])) (after s x)) where
  from_here : {s z : State} {es ds : List Entry} {xs ys : List Result} → Runs g a es xs s → Q xs s → Runs g s ds ys z → Q (xs ++ ys) z
  from_here {xs = xs} p q stop = rw (append-nil xs) q
  from_here {es = es} {xs = xs} p q (move {s = s} {e = e} {es = ds} {x = x} {xs = ys} d r) =
      rw (sym (append_assoc xs (x ∷ []) ys)) (from_here (run_more p e x d) (keeps es xs s e x p d q) r)

  by_last : {z : State} {es : List Entry} {xs : List Result} → Q [] a → Runs g a es xs z → Q xs z
  by_last q r = from_here stop q r

-- A core that has stored its index is at the beginning of a batch.
does_finish : (o : Orders) {g : Shape} {r : Ring} {c : Core} {q : Queue} {t : Trace} {age : ℕ} {p : Plan} → Planned g r c q t age p → (x : Result)
    → Does o r c q t p x → (b : Core) → stores_to (index r b) x.did ≡ true → (x.queue.side b).phase ≡ start
does_finish o (no_batch e) x d b h = clash (cc (rw d at h))
does_finish o no_age x d b h = clash (cc (rw d at h))
does_finish o past x d b h = clash (cc (rw d at h))
does_finish o (owning n rest eb ep) x d b h = clash (cc (rw d at h))
does_finish o (failing n rest s eb ep e k) x (inl d) b h = clash (cc (rw d.1 at h))
does_finish o (failing n rest s eb ep e k) x (inr d) b h = clash (cc (rw d.1 at h))
does_finish o (keeping n rest s eb ep e k) x (inl d) b h = clash (cc (rw d.1 at h))
does_finish o (keeping n rest s eb ep e k) x (inr d) b h = clash (cc (rw d.1 at h))
does_finish o (storing n rest i eb ep l k) x (inl d) b h = clash (cc (rw d.2 at h))
does_finish o (storing n rest i eb ep l k) x (inr d) b h = clash (cc (rw d.1 at h))
does_finish o (loading n rest i eb ep l k) x (inl d) b h = clash (cc (rw d.2 at h))
does_finish o (loading n rest i eb ep l k) x (inr d) b h = clash (cc (rw d.1 at h))
does_finish o {r = r} {c = c} {q = q} (completing n rest i eb ep l) x d b h =
    let e : b ≡ c = same_true b c (and_true (eqb r r) (same_core b c) (rw d at h)).1 in
    rw (d, e) (ap (λ (z : Side). z.phase) (with_same q.side c _))

step_finish : (g : Shape) (s : State) (age : ℕ) (k : Named) (h : Bool) (x : Result) → Entered g s age k h x → (b : Core)
    → stores_to (index (ring_of k) b) x.did ≡ true → (x.queue.side b).phase ≡ start
step_finish g s age nobody h x d b m = clash (cc (rw d at m))
step_finish g s age (named r c) true x d b m = clash (cc (rw d at m))
step_finish g s age (named r c) false x d b m = does_finish g.orders (planned g r c (s.queue r) s.trace age) x d b m

-- With strong orders, at ring r of some rings
module _ (p : Ring → Part) (names : ℕ → Named) (fair : (r : Ring) → Fair (p r)) (strong : (r : Ring) → (p r).bits ≡ all_strong) (r : Ring) where
  abbrev g : Shape
  g = machine_of p names

  done_bytes : (c : Core) {z : State} {es : List Entry} {xs : List Result} → Runs g (fresh_of p) es xs z
      → length ((z.queue r).side c).completed ≡ done_by r (p r) c xs
  done_bytes c run = completed_bytes p names r c run

  none_done : (c : Core) → 0 ≡ done_by r (p r) c []
  unfolding total
  none_done c = refl

  -- The invariant holds after every run.
  holds : {es : List Entry} {xs : List Result} {z : State} → Runs g (fresh_of p) es xs z → Invariant g r z.trace (z.queue r)
  holds run = live p names fair run (calm p names fair run strong).running r

  -- At a store of its index a core has made the accesses of the batches that it has completed, and no others.
  abbrev AtStores : List Result → State → Type 0
  AtStores xs s = (length s.trace ≡ length xs)
      × ((c : Core) (k : ℕ) → stores_to (index r c) (act s.trace k) ≡ true → up_to s.trace c r k ≡ done_by r (p r) c (take k xs))

  one_more : (es : List Entry) (xs : List Result) (s : State) (e : Entry) (x : Result) → Runs g (fresh_of p) es xs s → Step g s e x
      → AtStores xs s → AtStores (xs ++ (x ∷ [])) (after s x)
  one_more es xs s e x run d q =
      let long : length (xs ++ (x ∷ [])) ≡ suc (length xs) = length-append xs (x ∷ []) ∙ omega arith in
      let more = run_more run e x d in (
        omega (arith, q.0),
        λ c k h. elim (store-at x.did s.trace (index r c) k h) [
          | newest y z ↦
              let stored : stores_to (index r c) x.did ≡ true = rw z at h in
              let ring = of-ring c stored in
              let here : (after s x).queue r ≡ x.queue = ap (λ (b : Ring). with_queue s.queue b x.queue r) ((step-at g s e x d).0 ∙ ring) ∙ with_here s.queue r x.queue in
              let ph = step_finish g s e.age (names e.core) s.halted x d c (rw (← ring) at stored) in
              let n = ((holds more).half c).counted in
              let p0 : progress (((after s x).queue r).side c).phase ≡ 0 = ap (λ (q : Queue). progress (q.side c).phase) here ∙ ap progress ph in
              let whole : take k (xs ++ (x ∷ [])) ≡ xs ++ (x ∷ []) = take_all k (xs ++ (x ∷ [])) (omega (arith, q.0)) in
              up_to-all (x.did ∷ s.trace) c r k (omega arith) ∙ omega (arith, done_bytes c more) ∙ ap (done_by r (p r) c) (sym whole)
          | older y z ↦
              up_to-old x.did s.trace c r k y ∙ q.1 c k (rw z at h) ∙ ap (done_by r (p r) c) (sym (take-append-le k xs (x ∷ []) (omega (arith, q.0))))
        ],
      )
    where
      -- An entry that stores an index of ring r is of ring r.
      of-ring : (c : Core) → stores_to (index r c) x.did ≡ true → ring_of (names e.core) ≡ r
      of-ring c h = go (eqb (ring_of (names e.core)) r) refl
        where
          go : (b : Bool) → eqb (ring_of (names e.core)) r ≡ b → ring_of (names e.core) ≡ r
          go true k = eqb-true (ring_of (names e.core)) r k
          go false k =
              let n = stores_not (ring_of (names e.core)) r (index r c) x.did (step-at g s e x d).1 refl (eqb-false (ring_of (names e.core)) r k) in
              clash (cc)

  at_stores : {es : List Entry} {xs : List Result} {z : State} → Runs g (fresh_of p) es xs z → AtStores xs z
  at_stores run = by_last (fresh_of p) AtStores one_more (refl, λ c k h. clash (cc)) run

  -- The numbers at the entry where the batch failed.
  lost_numbers : {es : List Entry} {xs : List Result} {s : State} {x : Result} (c : Core) → Runs g (fresh_of p) es xs s
      → (l : Lost g r c (s.queue r) s.trace x) → (d : ℕ)
      → d ≡ shortfall g r c l.size ((s.queue r).side c).own (value_of s.trace l.from) → 1 ≤ d
      → done_by r (p r) c xs + l.size ≡ up_to s.trace (other c) r l.from + lead g r c + d
  lost_numbers {xs = xs} {s = s} c run l d e pos =
      let z = fair_sizes p names fair r in
      let t = s.trace in
      let me = (s.queue r).side c in
      let you = (s.queue r).side (other c) in
      let I = holds run in
      let mine = I.half c in
      let yours = I.half (other c) in
      let k : ℕ = up_to t (other c) r l.from in
      let own : me.own ≡ length me.completed % g.modulus r = rw l.waiting at mine.own_is in
      let value = store_value g t (other c) r (length you.completed) yours.log l.from l.is-store in
      let le = store_le g t (other c) r (length you.completed) yours.log l.from l.is-store in
      let far = forward g r z t c me you mine yours l.from l.in_reach in
      let room = room-of g r z t c me you mine yours me.own (value_of t l.from) k own value le far in
      let done = done_bytes c run in
      let by : d ≡ l.size - ((k + lead g r c) - length me.completed) = e ∙ ap (λ (w : ℕ). l.size - w) room in
      omega arith

  -- WHAT A FAILED BATCH WAS SHORT OF, at any ring.
  tells_missing : {es : List Entry} {xs : List Result} {s : State} → Runs g (fresh_of p) es xs s → TellsMissing p names r xs s
  tells_missing {xs = xs} {s = s} run e x d c n m k h =
      let l = lost_here g s e x d r c n m k h in
      let z = same_size h l in
      let b = lost_some l in
      let w = lost_numbers c run l m (z.1 ∙ lost_by l) (omega arith) in
      let at = at_stores run in
      let seen : up_to s.trace (other c) r l.from ≡ done_by r (p r) (other c) (take k xs) = read l.from l.is-store k z.2 at in
      omega arith
    where
      read : (i : ℕ) → StoreOf s.trace (index r (other c)) i → (j : ℕ) → j ≡ i → AtStores xs s
          → up_to s.trace (other c) r i ≡ done_by r (p r) (other c) (take j xs)
      read i (inl e) j q at = rw (q, e) (up_to-zero s.trace (other c) r ∙ none_done (other c))
      read i (inr e) j q at = rw q (at.1 (other c) i e)

pub strong_shortfall : StrongShortfall
strong_shortfall f lawful strong es xs s run = tells_missing (λ r. part_of f) names_one (λ r. lawful_fair f lawful) (λ r. strong) first_ring run

pub strong_pair_shortfall : StrongPairShortfall
strong_pair_shortfall f lawful strong₁ strong₂ es xs s run =
    let fair = pair_fair f lawful in
    let strong = pair_strong f strong₁ strong₂ in
    (tells_missing (parts_of f) names_pair fair strong first_ring run, tells_missing (parts_of f) names_pair fair strong second_ring run)

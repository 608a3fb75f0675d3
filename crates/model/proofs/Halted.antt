-- A run halts exactly where its trace has a data race, the pair that it reports is one, and once halted it stays so.
use mathlib.Core.Path.{◌≡◌, refl, sym, ap, ◌∙◌}
use mathlib.Core.Logic.{◌↔◌, ◌⊎◌, inl, inr}
use mathlib.Core.Bool.{Bool, true, false}
use mathlib.Core.List.{List, [], ◌∷◌}
use Prim.Native.Nat.{ℕ, suc, ◌≤◌, ◌<◌}
use native.Mathlib.Omega.{arith}
use lib.Dec.{eqb}
use borrow.Author.Tests.{ne_eqb, eqb-true}
use Rattle.order.specs.Trace.{Core, other, Ring, index, slot, Act, Trace, next, stores_to}
use Rattle.order.specs.Order.{Orders}
use Rattle.order.specs.Race.{RacesWith, DataRace}
use Rattle.order.proofs.Trace.{clash}
use Rattle.order.proofs.Chain.{Formed}
use Rattle.order.proofs.Record.{AccessOf}
use Rattle.order.proofs.Races.{Ordered, ordered_none, Calm, ordered_more, race_is_data_race, data_race_stays, ordered_no_race, access_of, calm_access, calm_load, calm_store, calm_idle}
use Rattle.model.specs.File.{Entry, Part}
use Rattle.model.specs.Marks.{race_found, no_such_core, is_halted, store_hidden}
use Rattle.model.specs.Queue.{Named, nobody, named, Shape, Queue}
use Rattle.model.specs.Plan.{Plan, refuse, perform, unless_hidden, unless_race, plan}
use Rattle.model.specs.Run.{Result, refused, Does, State, after, first_ring, Entered, Step, Runs, stop, move, machine_of, fresh_of}
use Rattle.model.specs.Report.{of_ring, entry_with, raced_at, race_of, partner_of}
use Rattle.model.proofs.Plan.{Planned, no_batch, no_age, past, owning, failing, keeping, storing, loading, completing, planned}
use Rattle.model.proofs.Formed.{PlanFits, plan_fits, step_fits}
use Rattle.model.proofs.Refused.{PlanMarks, plan_marks, refused_changes_nothing}
use Rattle.model.proofs.Rings.{with_either, ring_of, step-at}

-- Once halted

-- Every mark is 129 or 130.
abbrev pub AllRefused : List Result → Type 0
AllRefused [] = Unit {0}
AllRefused (x ∷ xs) = ((x.mark ≡ no_such_core) ⊎ (x.mark ≡ is_halted)) × AllRefused xs

entered_halted : (g : Shape) (s : State) (age : ℕ) (c : Named) (h : Bool) (x : Result) → h ≡ true → Entered g s age c h x
    → (x.mark ≡ no_such_core) ⊎ (x.mark ≡ is_halted)
entered_halted g s age nobody h x e d = inl (rw d)
entered_halted g s age (named r c) true x e d = inr (rw d)
entered_halted g s age (named r c) false x e d = clash (cc)

-- ONCE HALTED, ALWAYS HALTED, and all marks after it are 129 or 130.
pub once_halted : {g : Shape} {s z : State} {es : List Entry} {xs : List Result} → s.halted ≡ true → Runs g s es xs z
    → (z.halted ≡ true) × AllRefused xs
once_halted h stop = (h, tt)
once_halted {g} h (move {s = s} {e = e} {x = x} a p) =
    let k = once_halted (rw h) p in
    (k.0, (entered_halted g s e.age (g.names e.core) s.halted x h a, k.1))

-- Halts exactly at a race

-- A plan that asks no memory question does no data access.
abbrev Asks : Plan → Type 0
Asks (refuse n) = Unit {0}
Asks (perform n a z) = (o : Orders) (t : Trace) → Calm o t a
Asks (unless_hidden x s n z) = Unit {0}
Asks (unless_race x a n z) = Unit {0}

planned_asks : {g : Shape} {r : Ring} {c : Core} {q : Queue} {t : Trace} {age : ℕ} {p : Plan} → Planned g r c q t age p → Asks p
planned_asks (no_batch e) = tt
planned_asks no_age = tt
planned_asks past = tt
planned_asks {r = r} {c = c} (owning n rest eb ep) = λ o t. calm_load o t c c r _
planned_asks (failing n rest s eb ep e h) = tt
planned_asks (keeping n rest s eb ep e h) = tt
planned_asks (storing n rest i eb ep l k) = tt
planned_asks (loading n rest i eb ep l k) = tt
planned_asks {r = r} {c = c} (completing n rest i eb ep l) = λ o t. calm_store o t c c r _

-- One entry of a machine that has not halted: it races with an entry, or it is calm.
abbrev Went : Orders → Trace → Result → Type 0
Went o t x = ((eqb x.mark race_found ≡ false) × Calm o t x.did)
    ⊎ ((eqb x.mark race_found ≡ true) × DataRace o (x.did ∷ t) x.partner (next t))

module _ (o : Orders) (r : Ring) (c : Core) (q : Queue) (t : Trace) (f : Formed t) where
  no_race : (n : ℕ) → n < race_found → (x : Result) → x.mark ≡ n → eqb x.mark race_found ≡ false
  no_race n l x e = ne_eqb x.mark race_found (omega arith)

  went_refused : (n : ℕ) → no_such_core ≤ n → (x : Result) → x ≡ refused r q n → Went o t x
  went_refused n l x d = inl (rw d (ne_eqb n race_found (omega arith)), rw d (calm_idle o t))

  does_went : (p : Plan) (x : Result) → PlanFits t c r p → PlanMarks p → Asks p → Does o r c q t p x → Went o t x
  does_went (refuse n) x h m k d = went_refused n m x d
  does_went (perform n a z) x h m k d = inl (no_race n m x (rw d), rw d (k o t))
  does_went (unless_hidden p s n z) x h m k (inl d) = went_refused store_hidden (omega arith) x d.1
  does_went (unless_hidden p s n z) x h m k (inr d) = inl (no_race n m x (rw d.1), rw (d.1, h.0) (calm_load o t c (other c) r s))
  does_went (unless_race p a n z) x h m k (inl d) =
      let y = h.0 in
      let w : RacesWith o t c (slot r y) a d.0 = rw h.1 at d.1.races in
      rw d.2 (inr (refl, race_is_data_race o t c r y a d.0 (h.3, f) (access_of a c r y h.2) w))
  does_went (unless_race p a n z) x h m k (inr d) =
      let y = h.0 in
      let w : (i : ℕ) → ¬ RacesWith o t c (slot r y) a i = rw h.1 at d.0 in
      inl (no_race n m x (rw d.1), rw d.1 (calm_access o t a c r y h.2 w))

entered_went : (g : Shape) (s : State) (age : ℕ) (c : Named) (h : Bool) (x : Result) → Formed s.trace → Entered g s age c h x
    → Went g.orders s.trace x
entered_went g s age nobody h x f d = went_refused g.orders first_ring Rattle.order.specs.Trace.core0 (s.queue first_ring) s.trace f no_such_core (omega arith) x d
entered_went g s age (named r c) true x f d = went_refused g.orders r c (s.queue r) s.trace f is_halted (omega arith) x d
entered_went g s age (named r c) false x f d =
    does_went g.orders r c (s.queue r) s.trace f (plan g r c (s.queue r) s.trace age) x
    (plan_fits g r c (s.queue r) s.trace age) (plan_marks g r c (s.queue r) s.trace age)
    (planned_asks (planned g r c (s.queue r) s.trace age)) d

pub step_went : (g : Shape) (s : State) (e : Entry) (x : Result) → Formed s.trace → Step g s e x → Went g.orders s.trace x
step_went g s e x f d = entered_went g s e.age (g.names e.core) s.halted x f d

-- An entry at which the machine has halted, or with which it halts: every queue stays, and no index is stored.
does_raced : (o : Orders) (r : Ring) (c : Core) (q : Queue) (t : Trace) (p : Plan) (x : Result) → PlanFits t c r p → PlanMarks p → x.mark ≡ race_found
    → Does o r c q t p x → (x.queue ≡ q) × ((b : Ring) (d : Core) → stores_to (index b d) x.did ≡ false)
does_raced o r c q t (refuse n) x h m e d = let k : x.mark ≡ n = rw d in absurd (omega arith)
does_raced o r c q t (perform n a z) x h m e d = let k : x.mark ≡ n = rw d in absurd (omega arith)
does_raced o r c q t (unless_hidden p s n z) x h m e (inl d) = let k : x.mark ≡ store_hidden = rw d.1 in absurd (omega arith)
does_raced o r c q t (unless_hidden p s n z) x h m e (inr d) = let k : x.mark ≡ n = rw d.1 in absurd (omega arith)
does_raced o r c q t (unless_race p a n z) x h m e (inl d) = rw d.2 (refl, λ b k. no_index a c r h.0 h.2 b k)
  where
    no_index : (a : Act) (c : Core) (r : Ring) (y : ℕ) → AccessOf a c r y → (b : Ring) (k : Core) → stores_to (index b k) a ≡ false
    no_index a c r y (inl u) b k = rw u.1
    no_index a c r y (inr u) b k = rw u.1
does_raced o r c q t (unless_race p a n z) x h m e (inr d) = let k : x.mark ≡ n = rw d.1 in absurd (omega arith)

entered_raced : (g : Shape) (s : State) (age : ℕ) (c : Named) (h : Bool) (x : Result) → x.mark ≡ race_found → Entered g s age c h x
    → (x.queue ≡ s.queue (ring_of c)) × ((b : Ring) (d : Core) → stores_to (index b d) x.did ≡ false)
entered_raced g s age nobody h x e d = let k : x.mark ≡ no_such_core = rw d in absurd (omega arith)
entered_raced g s age (named r c) true x e d = let k : x.mark ≡ is_halted = rw d in absurd (omega arith)
entered_raced g s age (named r c) false x e d =
    does_raced g.orders r c (s.queue r) s.trace (plan g r c (s.queue r) s.trace age) x
    (plan_fits g r c (s.queue r) s.trace age) (plan_marks g r c (s.queue r) s.trace age) e d

pub halted_stays : (g : Shape) (s : State) (e : Entry) (x : Result) → Step g s e x → (after s x).halted ≡ true
    → ((p : Ring) → (after s x).queue p ≡ s.queue p) × ((b : Ring) (d : Core) → stores_to (index b d) x.did ≡ false)
halted_stays g s e x d h = go s.halted refl
  where
    raced_here : x.mark ≡ race_found → ((p : Ring) → (after s x).queue p ≡ s.queue p) × ((b : Ring) (c : Core) → stores_to (index b c) x.did ≡ false)
    raced_here m =
        let z = entered_raced g s e.age (g.names e.core) s.halted x m d in
        let a = step-at g s e x d in
        (λ p. with_either (λ q. q ≡ s.queue p) s.queue x.ring x.queue p (λ k. z.0 ∙ ap s.queue (sym a.0 ∙ k)) (λ k. refl), z.1)

    refused_here : no_such_core ≤ x.mark → ((p : Ring) → (after s x).queue p ≡ s.queue p) × ((b : Ring) (c : Core) → stores_to (index b c) x.did ≡ false)
    refused_here l = let z = refused_changes_nothing g s e x d l in (z.1, λ b c. rw z.0)

    either : (x.mark ≡ no_such_core) ⊎ (x.mark ≡ is_halted) → no_such_core ≤ x.mark
    either (inl k) = omega arith
    either (inr k) = omega arith

    go : (b : Bool) → s.halted ≡ b → ((p : Ring) → (after s x).queue p ≡ s.queue p) × ((b : Ring) (c : Core) → stores_to (index b c) x.did ≡ false)
    go true k = refused_here (either (entered_halted g s e.age (g.names e.core) s.halted x k d))
    go false k = raced_here (eqb-true x.mark race_found (rw k at h))

-- What a run keeps: not halted and every clash in order, or halted and a data race.
abbrev Kept : Orders → State → Type 0
Kept o s = ((s.halted ≡ false) × Ordered o s.trace) ⊎ ((s.halted ≡ true) × ((i j : ℕ) × DataRace o s.trace i j))

step_kept : (g : Shape) (s : State) (e : Entry) (x : Result) → Formed (x.did ∷ s.trace) → Step g s e x → Kept g.orders s
    → Kept g.orders (after s x)
step_kept g s e x f d (inr k) = inr (rw k.0, (k.1.0, k.1.1, data_race_stays g.orders x.did s.trace f k.1.0 k.1.1 k.1.2))
step_kept g s e x f d (inl k) = go (step_went g s e x f.1 d)
  where
    go : Went g.orders s.trace x → Kept g.orders (after s x)
    go (inl w) = inl (rw (k.0, w.0), ordered_more g.orders x.did s.trace f w.1 k.1)
    go (inr w) = inr (rw (k.0, w.0), (x.partner, next s.trace, w.1))

run_kept : {g : Shape} {s z : State} {es : List Entry} {xs : List Result} → Formed s.trace → Kept g.orders s → Runs g s es xs z
    → Kept g.orders z
run_kept f k stop = k
run_kept {g} f k (move {s = s} {e = e} {x = x} a p) =
    let f' : Formed (x.did ∷ s.trace) = (step_fits g s e x a, f) in
    run_kept f' (step_kept g s e x f' a k) p

-- A RUN HALTS EXACTLY WHERE ITS TRACE HAS A DATA RACE.
pub halts_at_races : (p : Ring → Part) (names : ℕ → Named) {z : State} {es : List Entry} {xs : List Result} → Runs (machine_of p names) (fresh_of p) es xs z
    → (z.halted ≡ true) ↔ ((i j : ℕ) × DataRace (machine_of p names).orders z.trace i j)
halts_at_races p names {z} run = go (run_kept tt (inl (refl, ordered_none (machine_of p names).orders)) run)
  where
    go : Kept (machine_of p names).orders z → (z.halted ≡ true) ↔ ((i j : ℕ) × DataRace (machine_of p names).orders z.trace i j)
    go (inl k) = (λ e. clash (cc), λ u. absurd (ordered_no_race (machine_of p names).orders z.trace k.1 u.0 u.1 u.2))
    go (inr k) = (λ e. k.1, λ u. k.0)

-- The pair that a run reports

run_race_stays : {g : Shape} {s z : State} {es : List Entry} {xs : List Result} → Formed s.trace → (i j : ℕ) → DataRace g.orders s.trace i j
    → Runs g s es xs z → DataRace g.orders z.trace i j
run_race_stays f i j u stop = u
run_race_stays {g} f i j u (move {s = s} {e = e} {x = x} a p) =
    let f' : Formed (x.did ∷ s.trace) = (step_fits g s e x a, f) in
    run_race_stays f' i j (data_race_stays g.orders x.did s.trace f' i j u) p

-- For a run from any state, its entries counted on from there.
reported : {g : Shape} {s z : State} {es : List Entry} {xs : List Result} (r : Ring) → Formed s.trace → Runs g s es xs z
    → ¬ (entry_with (raced_at r) (next s.trace) xs ≡ 0)
    → DataRace g.orders z.trace (partner_of (of_ring r xs)) (entry_with (raced_at r) (next s.trace) xs)
reported r f stop h = absurd (h refl)
reported {g} r f (move {s = s} {z = z} {e = e} {x = x} {xs = xs} a p) h =
    go (eqb x.ring r) refl (step_went g s e x f a) (λ k. reported r f' p k)
  where
    f' : Formed (x.did ∷ s.trace)
    f' = (step_fits g s e x a, f)

    n : ℕ
    n = next s.trace

    go : (b : Bool) → eqb x.ring r ≡ b → Went g.orders s.trace x
        → (¬ (entry_with (raced_at r) (suc n) xs ≡ 0) → DataRace g.orders z.trace (partner_of (of_ring r xs)) (entry_with (raced_at r) (suc n) xs))
        → DataRace g.orders z.trace (partner_of (of_ring r (x ∷ xs))) (entry_with (raced_at r) n (x ∷ xs))
    go false k w ih = rw k (ih (rw k at h))
    go true k (inl w) ih = rw (k, w.0) (ih (rw (k, w.0) at h))
    go true k (inr w) ih = rw (k, w.0) (run_race_stays f' x.partner (next s.trace) w.1 p)

-- THE PAIR IN A RING'S REPORT is unordered in both directions.
pub reported_race : (p : Ring → Part) (names : ℕ → Named) (r : Ring) {z : State} {es : List Entry} {xs : List Result}
    → Runs (machine_of p names) (fresh_of p) es xs z
    → ¬ (race_of r xs ≡ 0) → DataRace (machine_of p names).orders z.trace (partner_of (of_ring r xs)) (race_of r xs)
reported_race p names r run h = reported r tt run h

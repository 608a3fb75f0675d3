-- Laws of the report's numbers: every entry is performed or refused, a data load is a byte of out, and the sizes of the completed batches add
-- up to the bytes of the completed batches.
use mathlib.Core.Path.{◌≡◌, refl, sym, ap, ◌∙◌}
use mathlib.Core.Logic.{inl, inr}
use mathlib.Core.Bool.{Bool, true, false, cond, not}
use mathlib.Core.Option.{some}
use mathlib.Core.List.{List, [], ◌∷◌, ◌++◌}
use Prim.Native.Nat.{ℕ, suc, ◌+◌, ◌≤◌, ◌<◌}
use native.Mathlib.Omega.{arith}
use lib.Dec.{eqb}
use lib.ListN.{length, length-append}
use Rattle.order.specs.Trace.{Core, core0, core1, same_core, Ring, index, Trace, who, latest, value_of}
use Rattle.order.specs.Order.{Orders}
use Rattle.order.proofs.Trace.{and_false, and_with, same_self, same_true}
use Rattle.model.specs.File.{Entry, total, push_sizes, pop_sizes, Part, part_of}
use Rattle.model.specs.Marks.{batch_failed, data_loaded, index_stored, no_such_core, is_halted}
use Rattle.model.specs.Queue.{Named, Shape, Phase, start, reload, moving, Side, Queue, with_side, pushes, is_short}
use Rattle.model.specs.Plan.{Plan}
use Rattle.model.specs.Run.{Result, Does, State, first_ring, names_one, Runs, machine_of, fresh_of, shape_of, fresh}
use Rattle.model.specs.Report.{one, count, marked, entry_performed, entry_refused, marked_of, completed_of, of_ring}
use Rattle.model.proofs.Rings.{Turn, stranger, halted, does, Turns, none_left, turn, run_turns}
use Rattle.model.proofs.OneRing.{of_one_ring}
use Rattle.model.proofs.Plan.{Planned, no_batch, no_age, past, owning, failing, keeping, storing, loading, completing}

-- PERFORMED AND REFUSED are together every entry.
pub performed_and_refused : (xs : List Result) → count entry_performed xs + count entry_refused xs ≡ length xs
performed_and_refused [] = refl
performed_and_refused (x ∷ xs) = let ih = performed_and_refused xs in go (entry_performed x) ih
  where
    go : (b : Bool) → count entry_performed xs + count entry_refused xs ≡ length xs
        → (one b + count entry_performed xs) + (one (not b) + count entry_refused xs) ≡ suc (length xs)
    go true h = omega arith
    go false h = omega arith

-- DATA LOADS MADE are the bytes of out.

grows : (q : Queue) (x : Result) (n : ℕ) → x.mark ≡ n → eqb n data_loaded ≡ false → x.queue.out ≡ q.out → length x.queue.out ≡ length q.out + one (marked data_loaded x)
grows q x n e k h = rw (e, k, h) (omega arith)

does_grows : (o : Orders) {g : Shape} {r : Ring} {c : Core} {q : Queue} {t : Trace} {age : ℕ} {p : Plan} → Planned g r c q t age p → (x : Result)
    → Does o r c q t p x → length x.queue.out ≡ length q.out + one (marked data_loaded x)
does_grows o {q = q} (no_batch e) x d = grows q x _ (ap (λ (y : Result). y.mark) d) refl (rw d)
does_grows o {q = q} no_age x d = grows q x _ (ap (λ (y : Result). y.mark) d) refl (rw d)
does_grows o {q = q} past x d = grows q x _ (ap (λ (y : Result). y.mark) d) refl (rw d)
does_grows o {q = q} (owning n rest eb ep) x d = grows q x _ (ap (λ (y : Result). y.mark) d) refl (rw d)
does_grows o {q = q} (failing n rest s eb ep e h) x (inl d) = grows q x _ (ap (λ (y : Result). y.mark) d.1) refl (rw d.1)
does_grows o {q = q} (failing n rest s eb ep e h) x (inr d) = grows q x _ (ap (λ (y : Result). y.mark) d.1) refl (rw d.1)
does_grows o {q = q} (keeping n rest s eb ep e h) x (inl d) = grows q x _ (ap (λ (y : Result). y.mark) d.1) refl (rw d.1)
does_grows o {q = q} (keeping n rest s eb ep e h) x (inr d) = grows q x _ (ap (λ (y : Result). y.mark) d.1) refl (rw d.1)
does_grows o {q = q} (storing n rest i eb ep l k) x (inl d) = grows q x _ (ap (λ (y : Result). y.mark) d.2) refl (rw d.2)
does_grows o {q = q} (storing n rest i eb ep l k) x (inr d) = grows q x _ (ap (λ (y : Result). y.mark) d.1) refl (rw d.1)
does_grows o {q = q} (loading n rest i eb ep l k) x (inl d) = grows q x _ (ap (λ (y : Result). y.mark) d.2) refl (rw d.2)
does_grows o {q = q} (loading n rest i eb ep l k) x (inr d) = rw d.1 (length-append q.out _)
does_grows o {q = q} (completing n rest i eb ep l) x d = grows q x _ (ap (λ (y : Result). y.mark) d) refl (rw d)

turn_grows : {g : Shape} {r : Ring} {q : Queue} {x : Result} → Turn g r q x → length x.queue.out ≡ length q.out + one (marked data_loaded x)
turn_grows {q = q} {x = x} (stranger d) = grows q x no_such_core (ap (λ (y : Result). y.mark) d) refl (rw d)
turn_grows {q = q} {x = x} (halted d) = grows q x is_halted (ap (λ (y : Result). y.mark) d) refl (rw d)
turn_grows {g} {x = x} (does c t age p w d) = does_grows g.orders w x d

pub loads_are_bytes : {g : Shape} {r : Ring} {q z : Queue} {xs : List Result} → Turns g r q xs z
    → length z.out ≡ length q.out + count (marked data_loaded) xs
loads_are_bytes none_left = omega arith
loads_are_bytes (turn a p) = omega (arith, loads_are_bytes p, turn_grows a)

-- COMPLETED BATCHES: their sizes add up to their bytes.

-- At the loads of a batch nothing is moved; then as many bytes as the phase says, and no more than the batch has.
abbrev pub SoundAt : Side → Phase → Type 0
SoundAt me start = me.moved ≡ []
SoundAt me reload = me.moved ≡ []
SoundAt me (moving i) = (length me.moved ≡ i) × ((n : ℕ) (rest : List ℕ) → me.batches ≡ n ∷ rest → i ≤ n)

abbrev Sound : Side → Type 0
Sound me = SoundAt me me.phase

pub first_phase : (b : Bool) (me : Side) → me.moved ≡ [] → SoundAt me (cond b reload (moving 0))
first_phase true me e = e
first_phase false me e = (ap length e, λ n rest k. omega arith)

pub moved_one : (me : Side) (n : ℕ) (rest : List ℕ) (i byte : ℕ) → SoundAt me (moving i) → i < n
    → (length (me.moved ++ (byte ∷ [])) ≡ suc i) × ((m : ℕ) (l : List ℕ) → n ∷ rest ≡ m ∷ l → suc i ≤ m)
moved_one me n rest i byte z l = (length-append me.moved (byte ∷ []) ∙ omega (arith, z.0), λ m k e. let en : n ≡ m = cc in omega arith)

pub all-moved : (me : Side) (n : ℕ) (rest : List ℕ) (i : ℕ) → me.batches ≡ n ∷ rest → SoundAt me (moving i) → n ≤ i → length me.moved ≡ n
all-moved me n rest i eb z l = omega (arith, z.0, z.1 n rest eb)

-- What an entry makes of the side of the core that moves, as far as its batches go.
data Mine (a b : Side) (mark : ℕ) : Type 0 where
  stays : eqb mark batch_failed ≡ false → eqb mark index_stored ≡ false → b.batches ≡ a.batches → b.completed ≡ a.completed → (Sound a → Sound b) → Mine a b mark
  fails : (n : ℕ) (rest : List ℕ) → mark ≡ batch_failed → a.batches ≡ n ∷ rest → b.batches ≡ rest → b.completed ≡ a.completed → b.phase ≡ start → b.moved ≡ [] → Mine a b mark
  completes : (n : ℕ) (rest : List ℕ) → mark ≡ index_stored → a.batches ≡ n ∷ rest → b.batches ≡ rest → b.phase ≡ start → b.moved ≡ []
      → (Sound a → length b.completed ≡ length a.completed + n) → Mine a b mark

-- What an entry of core d changes: nothing, or that core's side.
data Changed (q : Queue) (d : Core) (x : Result) : Type 0 where
  nothing : x.queue ≡ q → eqb x.mark batch_failed ≡ false → eqb x.mark index_stored ≡ false → Changed q d x
  side : (me : Side) → x.queue.side ≡ with_side q.side d me → who x.did ≡ some d → Mine (q.side d) me x.mark → Changed q d x

stayed : (q : Queue) (d : Core) (x : Result) (n : ℕ) → x.mark ≡ n → eqb n batch_failed ≡ false → eqb n index_stored ≡ false → x.queue ≡ q → Changed q d x
stayed q d x n e h k z = nothing z (rw e h) (rw e k)

does_changed : (o : Orders) {g : Shape} {r : Ring} {c : Core} {q : Queue} {t : Trace} {age : ℕ} {p : Plan} → Planned g r c q t age p → (x : Result)
    → Does o r c q t p x → Changed q c x
does_changed o {c = c} {q = q} (no_batch e) x d = stayed q c x _ (ap (λ (y : Result). y.mark) d) refl refl (rw d)
does_changed o {c = c} {q = q} no_age x d = stayed q c x _ (ap (λ (y : Result). y.mark) d) refl refl (rw d)
does_changed o {c = c} {q = q} past x d = stayed q c x _ (ap (λ (y : Result). y.mark) d) refl refl (rw d)
does_changed o {g} {r} {c = c} {q = q} {t = t} (owning n rest eb ep) x d =
    let own = value_of t (latest t (index r c)) in
    let me : Side = record {
      batches = n ∷ rest;
      phase = cond (is_short g r c n own (q.side c).cached) reload (moving 0);
      own = own;
      cached = (q.side c).cached;
      moved = [];
      completed = (q.side c).completed;
    } in
    rw d (side me refl refl (stays refl refl (sym eb) refl (λ _. first_phase (is_short g r c n own (q.side c).cached) me refl)))
does_changed o {c = c} {q = q} (failing n rest s eb ep e h) x (inl d) = stayed q c x _ (ap (λ (y : Result). y.mark) d.1) refl refl (rw d.1)
does_changed o {c = c} {q = q} (failing n rest s eb ep e h) x (inr d) = rw d.1 (side _ refl refl (fails n rest refl eb refl refl refl refl))
does_changed o {c = c} {q = q} (keeping n rest s eb ep e h) x (inl d) = stayed q c x _ (ap (λ (y : Result). y.mark) d.1) refl refl (rw d.1)
does_changed o {c = c} {q = q} (keeping n rest s eb ep e h) x (inr d) =
    rw d.1 (side _ refl refl (stays refl refl (sym eb) refl (λ _. (refl, λ m l k. omega arith))))
does_changed o {c = c} {q = q} (storing n rest i eb ep l k) x (inl d) = stayed q c x _ (ap (λ (y : Result). y.mark) d.2) refl refl (rw d.2)
does_changed o {c = c} {q = q} (storing n rest i eb ep l k) x (inr d) =
    rw d.1 (side _ refl refl (stays refl refl (sym eb) refl (λ z. moved_one (q.side c) n rest i _ (rw ep at z) l)))
does_changed o {c = c} {q = q} (loading n rest i eb ep l k) x (inl d) = stayed q c x _ (ap (λ (y : Result). y.mark) d.2) refl refl (rw d.2)
does_changed o {c = c} {q = q} (loading n rest i eb ep l k) x (inr d) =
    rw d.1 (side _ refl refl (stays refl refl (sym eb) refl (λ z. moved_one (q.side c) n rest i _ (rw ep at z) l)))
does_changed o {c = c} {q = q} (completing n rest i eb ep l) x d =
    rw d (side _ refl refl (completes n rest refl eb refl refl refl (λ z. length-append (q.side c).completed (q.side c).moved ∙ omega (arith, all-moved (q.side c) n rest i eb (rw ep at z) l))))

-- Results that end no batch of core c, and those that do.

nothing_left : {A : Type 0} (c : Core) (xs : List Result) → completed_of {A = A} c xs [] ≡ []
nothing_left c [] = refl
nothing_left c (x ∷ xs) = refl

pub passes : {A : Type 0} (c : Core) (x : Result) (xs : List Result) (bs : List A) → marked_of c batch_failed x ≡ false → marked_of c index_stored x ≡ false
    → completed_of c (x ∷ xs) bs ≡ completed_of c xs bs
passes c x xs [] e k = sym (nothing_left c xs)
passes c x xs (b ∷ bs) e k = rw (e, k)

-- What core c has completed, and what the results to come complete of the batches that it has left.
abbrev Owed : Core → Side → List Result → ℕ
Owed c me xs = length me.completed + total (completed_of c xs me.batches)

same_owed : (c : Core) (a b : Side) (x : Result) (xs : List Result) → marked_of c batch_failed x ≡ false → marked_of c index_stored x ≡ false
    → b.batches ≡ a.batches → b.completed ≡ a.completed → Owed c b xs ≡ Owed c a (x ∷ xs)
same_owed c a b x xs e k p q = rw (p, q, passes c x xs a.batches e k)

marked_not : (c : Core) (x : Result) (n : ℕ) → eqb x.mark n ≡ false → marked_of c n x ≡ false
marked_not c x n e = rw e

marked_other : (c d : Core) (x : Result) (n : ℕ) → who x.did ≡ some d → same_core c d ≡ false → marked_of c n x ≡ false
marked_other c d x n w e = rw (w, e) (and_false (marked n x))

marked_own : (c : Core) (x : Result) (n m : ℕ) → who x.did ≡ some c → x.mark ≡ m → marked_of c n x ≡ eqb m n
marked_own c x n m w e = rw (w, e, same_self c) (and_with (eqb m n))

mine_owed : (c : Core) (a b : Side) (x : Result) → Sound a → who x.did ≡ some c → Mine a b x.mark
    → Sound b × ((xs : List Result) → Owed c b xs ≡ Owed c a (x ∷ xs))
unfolding total
mine_owed c a b x s w (stays e k p q f) = (f s, λ xs. same_owed c a b x xs (marked_not c x batch_failed e) (marked_not c x index_stored k) p q)
mine_owed c a b x s w (fails n rest e p q z ph em) =
    (rw ph em, λ xs. rw (p, q, z, marked_own c x batch_failed batch_failed w e))
mine_owed c a b x s w (completes n rest e p q ph em f) =
    (rw ph em, λ xs. rw (p, q, marked_own c x batch_failed index_stored w e, marked_own c x index_stored index_stored w e) (omega (arith, f s)))

changed_owed : (c d : Core) (q : Queue) (x : Result) → Sound (q.side c) → Changed q d x
    → Sound (x.queue.side c) × ((xs : List Result) → Owed c (x.queue.side c) xs ≡ Owed c (q.side c) (x ∷ xs))
changed_owed c d q x s (nothing z e k) =
    (rw z s, λ xs. same_owed c (q.side c) (x.queue.side c) x xs (marked_not c x batch_failed e) (marked_not c x index_stored k) (rw z) (rw z))
changed_owed c d q x s (side me z w m) = go (same_core d c) refl
  where
    flip : (c d : Core) → same_core d c ≡ false → same_core c d ≡ false
    flip core0 core0 e = e
    flip core0 core1 e = refl
    flip core1 core0 e = refl
    flip core1 core1 e = e

    go : (b : Bool) → same_core d c ≡ b → Sound (x.queue.side c) × ((xs : List Result) → Owed c (x.queue.side c) xs ≡ Owed c (q.side c) (x ∷ xs))
    go true e =
        let ec : d ≡ c = same_true d c e in
        let at : x.queue.side c ≡ me = ap (λ (f : Core → Side). f c) z ∙ ap (λ (b : Bool). cond b me (q.side c)) e in
        rw at (mine_owed c (q.side c) me x s (w ∙ ap some ec) (rw ec at m))
    go false e =
        let at : x.queue.side c ≡ q.side c = ap (λ (f : Core → Side). f c) z ∙ ap (λ (b : Bool). cond b me (q.side c)) e in
        let apart = flip c d e in
        (rw at s, λ xs. rw at (same_owed c (q.side c) (q.side c) x xs (marked_other c d x batch_failed w apart) (marked_other c d x index_stored w apart) refl refl))

turn_changed : {g : Shape} {r : Ring} {q : Queue} {x : Result} → Turn g r q x → (d : Core) × Changed q d x
turn_changed {q = q} {x = x} (stranger d) = (core0, stayed q core0 x no_such_core (ap (λ (y : Result). y.mark) d) refl refl (rw d))
turn_changed {q = q} {x = x} (halted d) = (core0, stayed q core0 x is_halted (ap (λ (y : Result). y.mark) d) refl refl (rw d))
turn_changed {g} {x = x} (does c t age p w d) = (c, does_changed g.orders w x d)

turns_owed : {g : Shape} {r : Ring} {q z : Queue} {xs : List Result} → (c : Core) → Sound (q.side c) → Turns g r q xs z
    → length (z.side c).completed ≡ Owed c (q.side c) xs
unfolding total
turns_owed c h none_left = omega arith
turns_owed c h (turn {q = q} {x = x} {xs = xs} a p) =
    let k = turn_changed a in
    let z = changed_owed c k.0 q x h k.1 in
    turns_owed c z.0 p ∙ z.1 xs

-- THE BYTES OF A CORE'S COMPLETED BATCHES at ring r are as many as the sizes of the completed batches add up to.
pub completed_bytes : (p : Ring → Part) (names : ℕ → Named) (r : Ring) (c : Core) {z : State} {es : List Entry} {xs : List Result}
    → Runs (machine_of p names) (fresh_of p) es xs z
    → length ((z.queue r).side c).completed ≡ total (completed_of c (of_ring r xs) (cond (pushes r c) (p r).push_sizes (p r).pop_sizes))
completed_bytes p names r c run = turns_owed c refl (run_turns r run) ∙ omega arith

-- .. and with one ring: of a run's completed pushes, and of its completed pops.
pub pushed-bytes : (f : List ℕ) {z : State} {es : List Entry} {xs : List Result} → Runs (shape_of f) (fresh f) es xs z
    → length ((z.queue first_ring).side core0).completed ≡ total (completed_of core0 xs (push_sizes f))
pushed-bytes f p = rw (of_one_ring f p) at (completed_bytes (λ r. part_of f) names_one first_ring core0 p)

pub popped-bytes : (f : List ℕ) {z : State} {es : List Entry} {xs : List Result} → Runs (shape_of f) (fresh f) es xs z
    → length ((z.queue first_ring).side core1).completed ≡ total (completed_of core1 xs (pop_sizes f))
popped-bytes f p = rw (of_one_ring f p) at (completed_bytes (λ r. part_of f) names_one first_ring core1 p)

-- What was pushed at a ring in a run: the file's own bytes, batch by batch, without the failed batches. Nothing of the memory rules is needed.
use mathlib.Core.Path.{◌≡◌, refl, sym, ap, ◌∙◌, subst}
use mathlib.Core.Logic.{inl, inr}
use mathlib.Core.Bool.{false, cond}
use mathlib.Core.List.{List, [], ◌∷◌, ◌++◌, append-nil, append_assoc}
use Prim.Native.Nat.{ℕ, ◌+◌, ◌≤◌, ◌<◌}
use native.Mathlib.Omega.{arith}
use lib.ListN.{length, get_or, drop, length-append, length-drop}
use lib.Seq.{drop-cons, append_snoc, take_at, drop_at}
use Rattle.order.specs.Trace.{Core, core0, core1, other, same_core, Ring, index, load, Trace, latest, value_of}
use Rattle.order.specs.Order.{Orders}
use Rattle.order.proofs.Trace.{clash, same_self, same_other}
use Rattle.model.specs.File.{Entry, total, Part}
use Rattle.model.specs.Marks.{batch_failed, index_stored}
use Rattle.model.specs.Queue.{Named, Shape, Phase, start, reload, moving, Side, Queue, pusher, is_short}
use Rattle.model.specs.Plan.{Plan, refuse, perform, unless_hidden, unless_race}
use Rattle.model.specs.Run.{Result, refused, performed, Does, State, Runs, machine_of, fresh_of}
use Rattle.model.specs.Report.{marked_of, completed_of, of_ring}
use Rattle.model.proofs.Plan.{Planned, no_batch, no_age, past, owning, failing, keeping, storing, loading, completing}
use Rattle.model.proofs.Report.{SoundAt, first_phase, moved_one, all-moved, passes}
use Rattle.model.proofs.Sides.{with_same}
use Rattle.model.proofs.Rings.{Turn, stranger, halted, does, Turns, none_left, turn, run_turns}
use Rattle.promises.specs.Batches.{batches_of, joined}
use Rattle.promises.proofs.Invariant.{each}

-- A byte stored: the first one to push goes behind those moved.
byte_moved : (moved feed : List ℕ) → 0 < length feed → (moved ++ (get_or feed 0 0 ∷ [])) ++ drop 1 feed ≡ moved ++ feed
byte_moved moved feed h = append_snoc moved (get_or feed 0 0) (drop 1 feed) ∙ ap (λ l. moved ++ l) (sym (drop-cons feed 0 0 h))

pub not_same : (c : Core) → same_core c (other c) ≡ false
not_same core0 = refl
not_same core1 = refl

module _ (r : Ring) where
  -- The bytes ahead of the pusher: those moved in its present batch, then those still to be pushed.
  abbrev k : Core
  k = pusher r

  abbrev mine : Queue → Side
  mine q = q.side k

  abbrev ahead : Queue → List ℕ
  ahead q = (mine q).moved ++ q.feed

  -- As many bytes are moved as the phase says, and there are bytes ahead for all batches left.
  record Sound (q : Queue) : Type 0 where
    at : SoundAt (mine q) (mine q).phase
    enough : total (mine q).batches ≤ length (ahead q)

  -- What the pusher has completed, and what the results to come complete of the bytes ahead.
  abbrev Owed : Queue → List Result → List ℕ
  Owed q xs = (mine q).completed ++ joined (completed_of k xs (batches_of (mine q).batches (ahead q)))

  -- After an entry the queue is sound and owes the same.
  record Kept (q : Queue) (x : Result) : Type 0 where
    sound : Sound q → Sound x.queue
    owed : Sound q → (xs : List Result) → Owed x.queue xs ≡ Owed q (x ∷ xs)

  -- ENTRIES THAT END NO BATCH of the pusher.

  -- The batches, the completed bytes and the bytes ahead stay.
  goes_on : (q : Queue) (x : Result) → marked_of k batch_failed x ≡ false → marked_of k index_stored x ≡ false
      → (mine x.queue).batches ≡ (mine q).batches → (mine x.queue).completed ≡ (mine q).completed
      → (Sound q → SoundAt (mine x.queue) (mine x.queue).phase) → (Sound q → ahead x.queue ≡ ahead q) → Kept q x
  goes_on q x e m b c h f = record {
    sound = λ s. record { at = h s; enough = rw (b, f s) s.enough };
    owed = λ s xs. rw (b, c, f s, passes k x xs (batches_of (mine q).batches (ahead q)) e m);
  }

  -- The pusher's side and the bytes to push are left alone.
  spared : (q : Queue) (x : Result) → marked_of k batch_failed x ≡ false → marked_of k index_stored x ≡ false
      → mine x.queue ≡ mine q → x.queue.feed ≡ q.feed → Kept q x
  spared q x e m a b = goes_on q x e m (rw a) (rw a) (λ s. rw a s.at) (λ s. rw (a, b))

  -- THE PLAN OF AN ENTRY, once it is carried out, keeps what is owed; one that is hidden or races spares it.

  abbrev Carried : Core → Queue → Plan → Type 0
  Carried c q (refuse n) = Kept q (refused r q n)
  Carried c q (perform n a after) = Kept q (performed r n a after)
  Carried c q (unless_hidden p s n after) = Kept q (performed r n (load c p s) after)
  Carried c q (unless_race p a n after) = Kept q (performed r n a after)

  does_kept : (o : Orders) (c : Core) (q : Queue) (t : Trace) (p : Plan) (x : Result) → Carried c q p → Does o r c q t p x → Kept q x
  does_kept o c q t (refuse n) x h d = rw d h
  does_kept o c q t (perform n a after) x h d = rw d h
  does_kept o c q t (unless_hidden p s n after) x h (inl d) = rw d.1 (spared q _ refl refl refl refl)
  does_kept o c q t (unless_hidden p s n after) x h (inr d) = rw d.1 h
  does_kept o c q t (unless_race p a n after) x h (inl d) = rw d.2 (spared q _ refl refl refl refl)
  does_kept o c q t (unless_race p a n after) x h (inr d) = rw d.1 h

  -- What the invariant says at a phase that is known.
  at_phase : (q : Queue) (p : Phase) → (mine q).phase ≡ p → Sound q → SoundAt (mine q) p
  at_phase q p e s = rw e at s.at

  module _ (q : Queue) (n : ℕ) (rest : List ℕ) (eb : (mine q).batches ≡ n ∷ rest) where
    left : Sound q → n + total rest ≤ length (ahead q)
    unfolding total
    left s = rw eb at s.enough

    -- While a byte of the batch is left there is one to push.
    fed : (i : ℕ) → length (mine q).moved ≡ i → i < n → Sound q → 0 < length q.feed
    fed i e l s = let w = left s in let a = length-append (mine q).moved q.feed in omega arith

    -- After the batch there are bytes ahead for the other batches.
    enough_after : (feed : List ℕ) → drop n (ahead q) ≡ feed → Sound q → total rest ≤ length feed
    enough_after feed e s = let w = left s in let a = length-drop n (ahead q) in let b = ap length e in omega arith

    -- With all bytes of the batch moved, the batch is what is moved.
    whole_batch : (i : ℕ) → (mine q).phase ≡ moving i → n ≤ i → Sound q → length (mine q).moved ≡ n
    whole_batch i ep l s = all-moved (mine q) n rest i eb (at_phase q (moving i) ep s) l

  -- The pusher's plans.
  pushing : {g : Shape} {q : Queue} {t : Trace} {age : ℕ} {p : Plan} → Planned g r k q t age p → Carried k q p
  pushing {q = q} (no_batch e) = spared q _ refl refl refl refl
  pushing {q = q} no_age = spared q _ refl refl refl refl
  pushing {q = q} past = spared q _ refl refl refl refl
  pushing {g} {q} {t} (owning n rest eb ep) =
      let v = value_of t (latest t (index r k)) in
      let short = is_short g r k n v (mine q).cached in
      let me : Side = record {
        batches = n ∷ rest;
        phase = cond short reload (moving 0);
        own = v;
        cached = (mine q).cached;
        moved = [];
        completed = (mine q).completed;
      } in
      goes_on q _ refl refl (rw (same_self k) (sym eb)) (rw (same_self k))
      (λ s. subst (λ (w : Side). SoundAt w w.phase) (sym (with_same q.side k me)) (first_phase short me refl))
      (λ s. rw (same_self k) (ap (λ l. l ++ q.feed) (sym (at_phase q start ep s))))
  pushing {q = q} (failing n rest s eb ep e h) = record {
    sound = λ w. record { at = rw (same_self k); enough = rw (same_self k) (enough_after q n rest eb (drop n q.feed) (passed w) w) };
    owed = λ w xs. rw (eb, passed w, same_self k);
  }
    where
      passed : Sound q → drop n (ahead q) ≡ drop n q.feed
      passed w = ap (λ l. drop n (l ++ q.feed)) (at_phase q reload ep w)
  pushing {q = q} (keeping n rest s eb ep e h) =
      goes_on q _ refl refl (rw (same_self k) (sym eb)) (rw (same_self k)) (λ w. rw (same_self k) (refl, λ m l z. omega arith))
      (λ w. rw (same_self k) (ap (λ l. l ++ q.feed) (sym (at_phase q reload ep w))))
  pushing {q = q} (storing n rest i eb ep l p) =
      goes_on q _ refl refl (rw (same_self k) (sym eb)) (rw (same_self k))
      (λ s. rw (same_self k) (moved_one (mine q) n rest i _ (at_phase q (moving i) ep s) l))
      (λ s. rw (same_self k) (byte_moved (mine q).moved q.feed (fed q n rest eb i (at_phase q (moving i) ep s).0 l s)))
  pushing {q = q} (loading n rest i eb ep l p) = clash (cc (same_self k))
  pushing {q = q} (completing n rest i eb ep l) = record {
    sound = λ s. record { at = rw (same_self k); enough = rw (same_self k) (enough_after q n rest eb q.feed (after s) s) };
    owed = λ s xs. rw (eb, take_at (mine q).moved q.feed n (whole_batch q n rest eb i ep l s), after s, same_self k)
        (append_assoc (mine q).completed (mine q).moved _);
  }
    where
      after : Sound q → drop n (ahead q) ≡ q.feed
      after s = drop_at (mine q).moved q.feed n (whole_batch q n rest eb i ep l s)

  -- The popper's plans leave the pusher alone.
  popping : {g : Shape} {q : Queue} {t : Trace} {age : ℕ} {p : Plan} → Planned g r (other k) q t age p → Carried (other k) q p
  popping {q = q} (no_batch e) = spared q _ refl refl refl refl
  popping {q = q} no_age = spared q _ refl refl refl refl
  popping {q = q} past = spared q _ refl refl refl refl
  popping {q = q} (owning n rest eb ep) = spared q _ refl refl (rw (same_other k)) refl
  popping {q = q} (failing n rest s eb ep e h) = spared q _ (not_same k) refl (rw (same_other k)) (rw (not_same k))
  popping {q = q} (keeping n rest s eb ep e h) = spared q _ refl refl (rw (same_other k)) refl
  popping {q = q} (storing n rest i eb ep l p) = clash (cc (not_same k))
  popping {q = q} (loading n rest i eb ep l p) = spared q _ refl refl (rw (same_other k)) refl
  popping {q = q} (completing n rest i eb ep l) = spared q _ refl (not_same k) (rw (same_other k)) refl

  carried : (c : Core) {g : Shape} {q : Queue} {t : Trace} {age : ℕ} {p : Plan} → Planned g r c q t age p → Carried c q p
  carried c {g} {q} {t} {age} {p} = each (λ c. Planned g r c q t age p → Carried c q p) k pushing popping c

  -- THE WHOLE RUN.

  turn_kept : {g : Shape} {q : Queue} {x : Result} → Turn g r q x → Kept q x
  turn_kept {q = q} (stranger d) = rw d (spared q _ refl refl refl refl)
  turn_kept {q = q} (halted d) = rw d (spared q _ refl refl refl refl)
  turn_kept {g} {q} {x} (does c t age p w d) = does_kept g.orders c q t p x (carried c w) d

  turns_owed : {g : Shape} {q z : Queue} {xs : List Result} → Sound q → Turns g r q xs z → (mine z).completed ≡ Owed q xs
  turns_owed {q = q} h none_left = sym (append-nil (mine q).completed)
  turns_owed h (turn {xs = xs} a p) = let w = turn_kept a in turns_owed (w.sound h) p ∙ w.owed h xs

-- THE BYTES OF COMPLETED PUSHES at ring r are the file's own, batch by batch, with the bytes of failed batches passed over.
pub completed_pushes : (p : Ring → Part) (names : ℕ → Named) (r : Ring) → total (p r).push_sizes ≤ length (p r).push_bytes
    → {es : List Entry} {xs : List Result} {z : State} → Runs (machine_of p names) (fresh_of p) es xs z
    → ((z.queue r).side (pusher r)).completed ≡ joined (completed_of (pusher r) (of_ring r xs) (batches_of (p r).push_sizes (p r).push_bytes))
completed_pushes p names r enough run =
    let w = turns_owed r {q = (fresh_of p).queue r} (record { at = refl; enough = rw (same_self (pusher r)) enough }) (run_turns r run) in
    rw (same_self (pusher r)) at w

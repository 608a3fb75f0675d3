-- The code's refusal is the definition's: it answers a number exactly where the definition refuses with that mark.
use mathlib.Core.Path.{◌≡◌, refl, ap, sym, ◌∙◌}
use mathlib.Core.Logic.{◌⊎◌, inl, inr}
use mathlib.Core.Bool.{Bool, true, false, cond}
use mathlib.Core.Option.{Option, none, some}
use mathlib.Core.List.{List}
use Prim.Native.Nat.{ℕ, zero, suc, ◌+◌, ◌<◌, ◌≤◌}
use native.Mathlib.Omega.{arith}
use lib.Dec.{eqb, ltb, leb}
use lib.ListN.{get_or, length, drop, drop_of_length-le, get_elem?}
use borrow.Author.Tests.{leb-true, leb-false, eqb-true, eqb-false}
use Rattle.order.specs.Trace.{Core, other, index, Trace, stores, value_of}
use Rattle.order.specs.computed.Record as rec
use Rattle.order.proofs.Trace.{clash}
use Rattle.model.specs.Marks.{no_such_core, is_halted, no_batch_left, no_age_here, past_initial, store_hidden}
use Rattle.model.specs.Queue.{Phase, start, reload, moving, Queue, is_short}
use Rattle.model.specs.Plan as pl
use Rattle.model.specs.Run.{Result, refused}
use Rattle.model.specs.computed.Machine.{decided}
use Rattle.ring.specs.declared.state.Ring.{Ring}
use Rattle.ring.specs.computed.State.{place_of, out_of_reach, core_at}
use Rattle.ring.specs.computed.Refusal.{load_refusal, core_refusal}
use Rattle.ring.proofs.Site.{Site, shape, seat, sizes_of, Fit, Local, entered_at, step_at}
use Rattle.ring.proofs.Parts.{batches_cons, phase_of}
use Rattle.ring.proofs.Lists.{get_elem-out, reach_is}
use Rattle.ring.proofs.Rep.{list_of, Rep}
use Rattle.ring.proofs.Join.{step_is}

-- The other core has a store of this age, and it is not out of core c's reach.
abbrev pub Readable : Site → Ring → Core → (age : ℕ) → Type 0
Readable u s c age = (age < (list_of u s (other c)).count)
    × (out_of_reach (list_of u s (other c)).entries (place_of (list_of u s (other c)) age) (core_at s (seat u c)).known (core_at s (seat u c)).read (list_of u s (other c)).count ≡ false)

-- Where it answers 0: core c has a batch in a machine that runs; only a foreign load has an age, within the list, of a store within reach.
pub record Goes (u : Site) (s : Ring) (st : Local) (c : Core) (age : ℕ) : Type 0 where
  pub running : st.halted ≡ false
  pub more : (core_at s (seat u c)).batch < length (sizes_of u c)
  pub aged : (core_at s (seat u c)).phase ≡ 1 → Readable u s c age
  pub ageless : ¬ ((core_at s (seat u c)).phase ≡ 1) → age ≡ 0

-- The two ways it can go, as an answer n.
abbrev pub Way : Site → Ring → Local → Core → (age n : ℕ) → Type 0
Way u s st c age n = ((step_at u c st age ≡ refused u.ring st.queue n) × (no_such_core ≤ n)) ⊎ (Goes u s st c age × (n ≡ 0))

pub phase_reload : (n : ℕ) (p : Phase) → phase_of n p ≡ 1 → p ≡ reload
phase_reload n start e = clash (cc)
phase_reload n reload e = refl
phase_reload n (moving i) e = go (ltb i n) e
  where
    go : (b : Bool) → ◌≡◌ {A = ℕ} (cond b 2 3) 1 → moving i ≡ reload
    go true e = absurd (omega arith)
    go false e = absurd (omega arith)

-- An age where none belongs.
aged_plan : (u : Site) (c : Core) (q : Queue) (t : Trace) (age n : ℕ) (rest : List ℕ) (p : Phase) → ¬ (p ≡ reload) → ¬ (age ≡ 0)
    → pl.in_batch (shape u) u.ring c q t age n rest p ≡ pl.refuse no_age_here
aged_plan u c q t zero n rest p h k = absurd (k refl)
aged_plan u c q t (suc age) n rest start h k = refl
aged_plan u c q t (suc age) n rest reload h k = absurd (h refl)
aged_plan u c q t (suc age) n rest (moving i) h k = refl

module _ {u : Site} (g : Fit u) {s : Ring} {st : Local} {xs : List Result} (r : Rep u s st xs) (c : Core) (age : ℕ) where
  -- A machine that has halted.
  halted_way : st.halted ≡ true → step_at u c st age ≡ refused u.ring st.queue is_halted
  halted_way h = ap (entered_at u c st age) h

  module _ (h : st.halted ≡ false) where
    no_batch_way : length (sizes_of u c) ≤ (core_at s (seat u c)).batch → step_at u c st age ≡ refused u.ring st.queue no_batch_left
    no_batch_way l =
        step_is u st c age h ∙ ap (decided (shape u).orders u.ring c st.queue st.trace)
        (ap (pl.of_batches (shape u) u.ring c st.queue st.trace age)
        ((r.core_is c).batches_are ∙ drop_of_length-le (sizes_of u c) {i = (core_at s (seat u c)).batch} l))

    module _ (more : (core_at s (seat u c)).batch < length (sizes_of u c)) where
      in-batch : (p : Phase) → (st.queue.side c).phase ≡ p
          → step_at u c st age
          ≡ decided (shape u).orders u.ring c st.queue st.trace (pl.in_batch (shape u) u.ring c st.queue st.trace age
          (get_or (sizes_of u c) (core_at s (seat u c)).batch 0) (drop ((core_at s (seat u c)).batch + 1) (sizes_of u c)) p)
      in-batch p ep =
          step_is u st c age h ∙ ap (decided (shape u).orders u.ring c st.queue st.trace)
          (ap (pl.of_batches (shape u) u.ring c st.queue st.trace age) ((r.core_is c).batches_are ∙ batches_cons (sizes_of u c) (core_at s (seat u c)).batch more)
          ∙ ap (pl.in_batch (shape u) u.ring c st.queue st.trace age (get_or (sizes_of u c) (core_at s (seat u c)).batch 0) (drop ((core_at s (seat u c)).batch + 1) (sizes_of u c))) ep)

      no_age_way : ¬ ((core_at s (seat u c)).phase ≡ 1) → ¬ (age ≡ 0) → step_at u c st age ≡ refused u.ring st.queue no_age_here
      no_age_way np na =
          in-batch (st.queue.side c).phase refl
          ∙ ap (decided (shape u).orders u.ring c st.queue st.trace)
          (aged_plan u c st.queue st.trace age (get_or (sizes_of u c) (core_at s (seat u c)).batch 0) (drop ((core_at s (seat u c)).batch + 1) (sizes_of u c)) (st.queue.side c).phase
          (λ e. np ((r.core_is c).phase_is ∙ ap (phase_of (core_at s (seat u c)).size) e)) na)

      load_way : (st.queue.side c).phase ≡ reload → (x : Option ℕ) → get_elem? (stores st.trace (index u.ring (other c))) age ≡ x
          → step_at u c st age
          ≡ decided (shape u).orders u.ring c st.queue st.trace (pl.foreign_load_of (shape u) u.ring c st.queue st.trace
          (get_or (sizes_of u c) (core_at s (seat u c)).batch 0) (drop ((core_at s (seat u c)).batch + 1) (sizes_of u c)) x)
      load_way ep x ex =
          in-batch reload ep ∙ ap (λ (y : Option ℕ). decided (shape u).orders u.ring c st.queue st.trace (pl.foreign_load_of (shape u) u.ring c st.queue st.trace
          (get_or (sizes_of u c) (core_at s (seat u c)).batch 0) (drop ((core_at s (seat u c)).batch + 1) (sizes_of u c)) y)) ex

      past_way : (st.queue.side c).phase ≡ reload → (list_of u s (other c)).count ≤ age
          → step_at u c st age ≡ refused u.ring st.queue past_initial
      past_way ep l = load_way ep none (get_elem-out (stores st.trace (index u.ring (other c))) age (omega (arith, (r.list_is (other c)).count_is)))

      hidden_way : (st.queue.side c).phase ≡ reload → age < (list_of u s (other c)).count
          → out_of_reach (list_of u s (other c)).entries (place_of (list_of u s (other c)) age) (core_at s (seat u c)).known (core_at s (seat u c)).read (list_of u s (other c)).count ≡ true
          → step_at u c st age ≡ refused u.ring st.queue store_hidden
      hidden_way ep small reached =
          let t : Trace = st.trace in
          let e : ℕ = get_or (list_of u s (other c)).entries (place_of (list_of u s (other c)) age) 0 in
          let n : ℕ = get_or (sizes_of u c) (core_at s (seat u c)).batch 0 in
          let new : rec.out_of_reach (shape u).orders t c (index u.ring (other c)) e ≡ true =
          sym (reach_is (r.list_is (other c)) (shape u).orders c age (core_at s (seat u c)).known (core_at s (seat u c)).read small (r.core_is c).known_is (r.read_is c)) ∙ reached in
          load_way ep (some e) ((r.list_is (other c)).entry_is age small) ∙ go (is_short (shape u) u.ring c n (st.queue.side c).own (value_of t e)) e n new
        where
          go : (b : Bool) (e n : ℕ) → rec.out_of_reach (shape u).orders st.trace c (index u.ring (other c)) e ≡ true
              → decided (shape u).orders u.ring c st.queue st.trace (cond b
              (pl.fail_batch u.ring c st.queue n (drop ((core_at s (seat u c)).batch + 1) (sizes_of u c)) e (value_of st.trace e))
              (pl.keep_batch u.ring c st.queue n (drop ((core_at s (seat u c)).batch + 1) (sizes_of u c)) e (value_of st.trace e)))
              ≡ refused u.ring st.queue store_hidden
          go true e n k = rw k
          go false e n k = rw k

-- The same, for an entry that names core c, by the code's own tests.
module _ {u : Site} (g : Fit u) {s : Ring} {st : Local} {xs : List Result} (r : Rep u s st xs) (c : Core) (age : ℕ) where
  goes : st.halted ≡ false → (core_at s (seat u c)).batch < length (sizes_of u c) → ((core_at s (seat u c)).phase ≡ 1 → Readable u s c age)
      → (¬ ((core_at s (seat u c)).phase ≡ 1) → age ≡ 0) → Way u s st c age 0
  goes h more aged ageless = inr (record { running = h; more = more; aged = aged; ageless = ageless }, refl)

  theirs_way : st.halted ≡ false → (core_at s (seat u c)).batch < length (sizes_of u c) → (core_at s (seat u c)).phase ≡ 1
      → Way u s st c age (load_refusal age (core_at s (seat u c)).known (core_at s (seat u c)).read (list_of u s (other c)))
  unfolding load_refusal
  theirs_way h more one = go (leb (list_of u s (other c)).count age) (out_of_reach (list_of u s (other c)).entries (place_of (list_of u s (other c)) age) (core_at s (seat u c)).known (core_at s (seat u c)).read (list_of u s (other c)).count) refl refl
    where
      ep : (st.queue.side c).phase ≡ reload
      ep = phase_reload (core_at s (seat u c)).size (st.queue.side c).phase (sym (r.core_is c).phase_is ∙ one)

      go : (x y : Bool) → leb (list_of u s (other c)).count age ≡ x
          → out_of_reach (list_of u s (other c)).entries (place_of (list_of u s (other c)) age) (core_at s (seat u c)).known (core_at s (seat u c)).read (list_of u s (other c)).count ≡ y
          → Way u s st c age (cond x 133 (cond y 134 0))
      go true y p q = inl (past_way g r c age h more ep (leb-true (list_of u s (other c)).count age p), omega arith)
      go false true p q = inl (hidden_way g r c age h more ep (leb-false (list_of u s (other c)).count age p) q, omega arith)
      go false false p q = goes h more (λ _. (leb-false (list_of u s (other c)).count age p, q)) (λ n. absurd (n one))

  module _ (batches : ℕ) (eb : batches ≡ length (sizes_of u c)) where
    running_way : st.halted ≡ false → Way u s st c age (core_refusal age batches (core_at s (seat u c)) (list_of u s (other c)))
    unfolding core_refusal
    running_way h = moves (leb batches (core_at s (seat u c)).batch) refl
      where
        moves : (b : Bool) → leb batches (core_at s (seat u c)).batch ≡ b
            → Way u s st c age (cond b 131
            (cond (eqb (core_at s (seat u c)).phase 1) (load_refusal age (core_at s (seat u c)).known (core_at s (seat u c)).read (list_of u s (other c))) (cond (eqb age 0) 0 132)))
        moves true e = inl (no_batch_way g r c age h (omega (arith, eb, leb-true batches (core_at s (seat u c)).batch e)), omega arith)
        moves false e = phase (eqb (core_at s (seat u c)).phase 1) refl
          where
            more : (core_at s (seat u c)).batch < length (sizes_of u c)
            more = omega (arith, eb, leb-false batches (core_at s (seat u c)).batch e)

            phase : (b : Bool) → eqb (core_at s (seat u c)).phase 1 ≡ b
                → Way u s st c age (cond b (load_refusal age (core_at s (seat u c)).known (core_at s (seat u c)).read (list_of u s (other c))) (cond (eqb age 0) 0 132))
            phase true k = theirs_way h more (eqb-true (core_at s (seat u c)).phase 1 k)
            phase false k = aged (eqb age 0) refl
              where
                aged : (b : Bool) → eqb age 0 ≡ b → Way u s st c age (cond b 0 132)
                aged true z = goes h more (λ one. absurd (eqb-false (core_at s (seat u c)).phase 1 k one)) (λ _. eqb-true age 0 z)
                aged false z = inl (no_age_way g r c age h more (eqb-false (core_at s (seat u c)).phase 1 k) (eqb-false age 0 z), omega arith)

    -- THE REFUSAL of an entry that names core c: a mark from 130 on, with which the definition refuses, or 0 and the entry goes.
    pub core_way : (halted : Bool) → st.halted ≡ halted
        → Way u s st c age (cond halted 130 (core_refusal age batches (core_at s (seat u c)) (list_of u s (other c))))
    core_way true h = inl (halted_way g r c age h, omega arith)
    core_way false h = running_way h

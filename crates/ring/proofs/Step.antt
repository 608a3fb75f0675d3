-- One entry of a ring that is not refused: the move that the phase chooses joins the definition's step, and what the move asks holds.
use mathlib.Core.Path.{◌≡◌, refl, ap, sym, ◌∙◌}
use mathlib.Core.Bool.{Bool, true, false, cond}
use mathlib.Core.List.{List}
use Prim.Native.Nat.{ℕ, suc, ◌+◌, ◌<◌, ◌≤◌}
use native.Mathlib.Omega.{arith}
use lib.Dec.{ltb}
use lib.ListN.{get_or, length}
use borrow.Author.Tests.{ltb-true, ltb-false}
use Rattle.order.specs.Trace.{Core, next}
use Rattle.order.proofs.Trace.{clash, same_self}
use Rattle.model.specs.File.{total}
use Rattle.model.specs.Queue.{Phase, start, reload, moving, pushes}
use Rattle.model.specs.Run.{Result}
use Rattle.model.proofs.Total.{total_take_suc, total_take_le}
use Rattle.ring.specs.declared.state.Ring.{Ring}
use Rattle.ring.specs.computed.Who.{chosen}
use Rattle.ring.specs.computed.State.{core_at, Bounded}
use Rattle.ring.specs.computed.Moves as mv
use Rattle.ring.proofs.Site.{Site, part, producer, consumer, whom, seat, sizes_of, Fit, Local, step_at}
use Rattle.ring.proofs.Parts.{phase_of, progress}
use Rattle.ring.proofs.Rep.{Rep, both, bounded}
use Rattle.ring.proofs.Join.{Joined, chosen_is, chosen_other}
use Rattle.ring.proofs.Loads.{own_joined, foreign_joined}
use Rattle.ring.proofs.Stored.{index_joined}
use Rattle.ring.proofs.Data.{store_joined, load_joined, consumer_pops}
use Rattle.ring.proofs.Verdict.{phase_reload, Goes}

phase_start : (n : ℕ) (p : Phase) → phase_of n p ≡ 0 → p ≡ start
phase_start n start e = refl
phase_start n reload e = clash (sym e)
phase_start n (moving i) e = go (ltb i n) e
  where
    go : (b : Bool) → ◌≡◌ {A = ℕ} (cond b 2 3) 0 → moving i ≡ start
    go true e = absurd (omega arith)
    go false e = absurd (omega arith)

phase_moving : (n : ℕ) (p : Phase) → phase_of n p ≡ 2 → (i : ℕ) × (p ≡ moving i) × (i < n)
phase_moving n start e = absurd (omega arith)
phase_moving n reload e = absurd (omega arith)
phase_moving n (moving i) e = go (ltb i n) refl e
  where
    go : (b : Bool) → ltb i n ≡ b → ◌≡◌ {A = ℕ} (cond b 2 3) 2 → (j : ℕ) × (moving i ≡ moving j) × (j < n)
    go true k e = (i, refl, ltb-true i n k)
    go false k e = absurd (omega arith)

phase_last : (n : ℕ) (p : Phase) → ¬ (phase_of n p ≡ 0) → ¬ (phase_of n p ≡ 1) → ¬ (phase_of n p ≡ 2) → (i : ℕ) × (p ≡ moving i) × (n ≤ i)
phase_last n start a b c = absurd (a refl)
phase_last n reload a b c = absurd (b refl)
phase_last n (moving i) a b c = go (ltb i n) refl c
  where
    go : (b : Bool) → ltb i n ≡ b → ¬ (◌≡◌ {A = ℕ} (cond b 2 3) 2) → (j : ℕ) × (moving i ≡ moving j) × (n ≤ j)
    go true k e = absurd (e refl)
    go false k e = (i, refl, ltb-false i n k)

module _ {u : Site} (g : Fit u) {s : Ring} {st : Local} {xs : List Result} (r : Rep u s st xs) {c : Core} {age : ℕ} (v : Goes u s st c age) where
  number : (core_at s (seat u c)).phase ≡ phase_of (core_at s (seat u c)).size (st.queue.side c).phase
  number = (r.core_is c).phase_is

  -- The batch's size, as the core holds it past its own load.
  held : (i : ℕ) → (st.queue.side c).phase ≡ moving i → (core_at s (seat u c)).size ≡ get_or (sizes_of u c) (core_at s (seat u c)).batch 0
  held i e = (rw e at (r.core_is c).sized).1

  pub own_arm : (core_at s (seat u c)).phase ≡ 0 → (size : ℕ) → size ≡ get_or (sizes_of u c) (core_at s (seat u c)).batch 0
      → Joined u (mv.own_load s (whom u c) size) st xs (step_at u c st age)
  own_arm q size es =
      let ea : age ≡ 0 = v.ageless (λ one. omega arith) in
      rw ea (own_joined g r v.running c v.more (phase_start (core_at s (seat u c)).size (st.queue.side c).phase (sym number ∙ q)) size es)

  pub foreign_arm : (core_at s (seat u c)).phase ≡ 1 → Joined u (mv.foreign_load s (whom u c) age) st xs (step_at u c st age)
  foreign_arm q =
      let z = v.aged q in
      foreign_joined g r v.running c v.more
      (phase_reload (core_at s (seat u c)).size (st.queue.side c).phase (sym number ∙ q)) age z.0 z.1

  -- A data access, by the core.
  abbrev Access : (byte : ℕ) → Core → Type 0
  Access byte e = (pushes u.ring e ≡ true → byte ≡ get_or st.queue.feed 0 0)
      → (core_at s (seat u e)).batch < length (sizes_of u e) → (i : ℕ) → (st.queue.side e).phase ≡ moving i
      → i < get_or (sizes_of u e) (core_at s (seat u e)).batch 0
      → Joined u (mv.data_access s (whom u e) byte (next st.trace)) st xs (step_at u e st 0)

  access : (byte : ℕ) (e : Core) → Access byte e
  access byte = both (Access byte) (producer u)
      (λ fed more i ep left. store_joined g r v.running more i ep left byte (fed (same_self (producer u))))
      (λ fed more i ep left. load_joined g r v.running more i ep left byte)

  pub data_arm : (core_at s (seat u c)).phase ≡ 2 → (byte : ℕ) → (pushes u.ring c ≡ true → byte ≡ get_or st.queue.feed 0 0)
      → Joined u (mv.data_access s (whom u c) byte (next st.trace)) st xs (step_at u c st age)
  data_arm q byte fed =
      let ea : age ≡ 0 = v.ageless (λ one. omega arith) in
      let z = phase_moving (core_at s (seat u c)).size (st.queue.side c).phase (sym number ∙ q) in
      rw ea (access byte c fed v.more z.0 z.1 (omega (arith, held z.0 z.1, z.2)))

  pub index_arm : ¬ ((core_at s (seat u c)).phase ≡ 0) → ¬ ((core_at s (seat u c)).phase ≡ 1) → ¬ ((core_at s (seat u c)).phase ≡ 2)
      → (room : (chosen (whom u c) s.back s.front).count < 256) → Joined u (mv.index_store s (whom u c) (next st.trace) room) st xs (step_at u c st age)
  index_arm a b d room =
      let ea : age ≡ 0 = v.ageless b in
      let z = phase_last (core_at s (seat u c)).size (st.queue.side c).phase (λ k. a (number ∙ k)) (λ k. b (number ∙ k)) (λ k. d (number ∙ k)) in
      rw ea (index_joined g r v.running c v.more z.0 z.1 (omega (arith, held z.0 z.1, z.2)) room)

  -- What the moves ask.

  pub bounds : Bounded (core_at s (seat u c))
  bounds = bounded g r c v.more

  pub age_lt : (core_at s (seat u c)).phase ≡ 1 → age < (chosen (whom u c) s.front s.back).count
  age_lt q = rw (chosen_other u c s.back s.front) (v.aged q).0

  -- In a data access a byte of the batch is left.
  left : (core_at s (seat u c)).phase ≡ 2
      → ((core_at s (seat u c)).moved < (core_at s (seat u c)).size) × ((core_at s (seat u c)).size ≡ get_or (sizes_of u c) (core_at s (seat u c)).batch 0)
  left q =
      let z = phase_moving (core_at s (seat u c)).size (st.queue.side c).phase (sym number ∙ q) in
      let m : (core_at s (seat u c)).moved ≡ z.0 = (r.core_is c).moved_is ∙ ap progress z.1 in
      (omega (arith, m, z.2), held z.0 z.1)

  pub moved_lt : (core_at s (seat u c)).phase ≡ 2 → (core_at s (seat u c)).moved < 255
  moved_lt p = omega (arith, left p, bounds)

  -- It is one of the bytes that the batch sizes add up to.
  pub byte_in : (core_at s (seat u c)).phase ≡ 2 → (core_at s (seat u c)).passed + (core_at s (seat u c)).moved < total (sizes_of u c)
  byte_in p = omega (
    arith,
    left p,
    (r.core_is c).passed_is,
    total_take_suc (sizes_of u c) (core_at s (seat u c)).batch v.more,
    total_take_le (sizes_of u c) (suc (core_at s (seat u c)).batch),
  )

  pub count_lt : (chosen (whom u c) s.back s.front).count < 256
  count_lt = rw (chosen_is u c s.back s.front) (omega (arith, r.list_few c, v.more, g.few c))

-- The bytes read never pass the sum of the pop sizes.
pub out_bound : {u : Site} {s : Ring} {st : Local} {xs : List Result} → Rep u s st xs → length st.queue.out ≤ total (part u).pop_sizes
out_bound {u} {s} {st} r = pops (go (st.queue.side (consumer u)).phase refl)
  where
    pops : length st.queue.out ≤ total (sizes_of u (consumer u)) → length st.queue.out ≤ total (part u).pop_sizes
    pops h = rw (consumer_pops u) at h

    go : (p : Phase) → (st.queue.side (consumer u)).phase ≡ p → length st.queue.out ≤ total (sizes_of u (consumer u))
    go start e =
        let m : (core_at s (seat u (consumer u))).moved ≡ 0 = (r.core_is (consumer u)).moved_is ∙ ap progress e in
        omega (arith, r.out_long, (r.core_is (consumer u)).done_le, (r.core_is (consumer u)).passed_is, total_take_le (sizes_of u (consumer u)) (core_at s (seat u (consumer u))).batch)
    go reload e =
        let m : (core_at s (seat u (consumer u))).moved ≡ 0 = (r.core_is (consumer u)).moved_is ∙ ap progress e in
        omega (arith, r.out_long, (r.core_is (consumer u)).done_le, (r.core_is (consumer u)).passed_is, total_take_le (sizes_of u (consumer u)) (core_at s (seat u (consumer u))).batch)
    go (moving i) e =
        let m : (core_at s (seat u (consumer u))).moved ≡ i = (r.core_is (consumer u)).moved_is ∙ ap progress e in
        let z = rw e at (r.core_is (consumer u)).sized in
        omega (
          arith,
          r.out_long,
          (r.core_is (consumer u)).done_le,
          (r.core_is (consumer u)).passed_is,
          total_take_suc (sizes_of u (consumer u)) (core_at s (seat u (consumer u))).batch z.0,
          total_take_le (sizes_of u (consumer u)) (suc (core_at s (seat u (consumer u))).batch),
          z.1,
          z.2,
        )

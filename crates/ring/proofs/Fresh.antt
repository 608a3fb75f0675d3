-- The fresh struct stands for the fresh ring.
use mathlib.Core.Path.{◌≡◌, refl, ap, sym, ◌∙◌}
use mathlib.Core.Bool.{Bool, true, false, cond}
use mathlib.Core.Option.{some}
use mathlib.Core.List.{[], ◌∷◌}
use Prim.Native.Nat.{ℕ, zero, suc, ◌-◌, ◌<◌}
use native.Mathlib.Omega.{arith}
use lib.ListN.{get_or, replicate, length-replicate, get_or-replicate, get_elem?}
use Rattle.order.specs.Trace.{Core, other, index, stores}
use Rattle.model.specs.File.{total}
use Rattle.model.specs.Queue.{pushes}
use Rattle.model.specs.Run.{fresh_side, fresh_of}
use Rattle.ring.specs.declared.who.Who.TheVariants.{Producer, Consumer}
use Rattle.ring.specs.declared.state.Slot.{Slot}
use Rattle.ring.specs.declared.state.Ring.{Ring}
use Rattle.ring.specs.computed.Who.{core_place}
use Rattle.ring.specs.computed.State.{fresh_stores, fresh_slots, fresh_slot, fresh_core, fresh_ring, core_at}
use Rattle.ring.proofs.Site.{Site, part, producer, consumer, seat, sizes_of, Fit, here}
use Rattle.ring.proofs.Lists.{Listed}
use Rattle.ring.proofs.Rep.{list_of, CoreRep, Rep}

fresh_listed : (M r : ℕ) → 0 < M → (c : Core) → Listed M [] (index r c) fresh_stores
unfolding fresh_stores
fresh_listed M r pos c = record {
  count_is = refl;
  entry_is = only;
  value_is = λ j h. let e : 1 - 1 - j ≡ 0 = omega arith in rw e refl;
  below = λ j h. let e : 1 - 1 - j ≡ 0 = omega arith in rw e pos;
}
  where
    only : (j : ℕ) → j < 1 → get_elem? (stores [] (index r c)) j ≡ some (get_or (replicate 256 0) (1 - 1 - j) 0)
    only zero h = refl
    only (suc j) h = absurd (omega arith)

fresh-core : {u : Site} → Fit u → (c : Core) → CoreRep u [] c fresh_core (fresh_side (sizes_of u c))
unfolding total
fresh-core {u} g c = record {
  phase_is = refl;
  moved_is = refl;
  batches_are = refl;
  batch_le = omega arith;
  sized = tt;
  size_lt = omega arith;
  own_is = refl;
  own_lt = omega (arith, g.modulus_low);
  cached_is = refl;
  known_is = refl;
  passed_is = refl;
  done_is = refl;
  done_le = omega arith;
  bytes_moved = refl;
  failed_le = omega arith;
}

-- The fresh struct of a ring.
abbrev pub fresh_at : Site → Ring
fresh_at u = fresh_ring (part u).size (part u).modulus (part u).bits

core-at : (u : Site) (c : Core) → core_at (fresh_at u) (seat u c) ≡ fresh_core
core-at u c = go (pushes u.ring c)
  where
    go : (b : Bool) → get_or (fresh_core ∷ fresh_core ∷ []) (core_place (cond b Producer Consumer)) fresh_core ≡ fresh_core
    go true = refl
    go false = refl

list_at : (u : Site) (c : Core) → list_of u (fresh_at u) c ≡ fresh_stores
list_at u c = go (pushes u.ring c)
  where
    go : (b : Bool) → cond b fresh_stores fresh_stores ≡ fresh_stores
    go true = refl
    go false = refl

-- THE FRESH RING.
pub fresh_rep : {u : Site} → Fit u → Rep u (fresh_at u) (here (fresh_of u.rings) u.ring) []
unfolding fresh_stores fresh_slots
fresh_rep {u} g = record {
  size_is = refl;
  modulus_is = refl;
  orders_are = refl;
  quiet = λ _. (refl, refl);
  two_cores = refl;
  core_is = λ c. rw (core-at u c) (fresh-core g c);
  list_is = λ c. rw (list_at u c) (fresh_listed (part u).modulus u.ring (omega (arith, g.modulus_low)) c);
  read_is = λ c. rw (list_at u (other c), core-at u c) (record { inside = omega arith; entry_is = refl });
  list_few = λ c. rw (list_at u c, core-at u c) (omega arith);
  bytes_are = record {
    slots_long = length-replicate 128 fresh_slot;
    bytes_long = length-replicate {A = ℕ} (part u).size 0;
    byte_is = λ y l. ap (λ (x : Slot). x.byte) (in_fresh y l) ∙ sym (get_or-replicate {A = ℕ} (part u).size y 0 0 l);
    byte_lt = λ y l. rw (get_or-replicate {A = ℕ} (part u).size y 0 0 l) (omega arith);
  };
  lately = λ _. record {
    stored_is = λ y l. ap (λ (x : Slot). x.stored) (in_fresh y l);
    loaded_is = λ y l. ap (λ (x : Slot). x.loaded) (in_fresh y l);
  };
  feed_is = rw (core-at u (producer u));
  out_long = rw (core-at u (consumer u));
  failed_is = λ c. rw (core-at u c);
  queue_is = refl;
  largest_is = λ c. rw (core-at u c);
  partner_is = refl;
}
  where
    in_fresh : (y : ℕ) → y < (part u).size → get_or (replicate 128 fresh_slot) y fresh_slot ≡ fresh_slot
    in_fresh y l = get_or-replicate 128 y fresh_slot fresh_slot (omega (arith, g.slots))

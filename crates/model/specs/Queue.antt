-- The queue of document 003 between the two cores: where each core stands in its batches, the slots, and the bytes that go in and come out.
use Rattle.std.specs.Prelude.{Bool, cond, List, ℕ, zero, suc, ◌+◌, ◌-◌, ◌%◌, eqb, ltb}
use Rattle.order.specs.Trace.{Core, core0, core1, same_core, Ring}
use Rattle.order.specs.Order.{Orders}

-- Whom a core byte names: nobody, or a core at a ring.
pub data Named : Type 0 where
  nobody : Named
  named : (r : Ring) (c : Core) → Named

-- The rings of a machine: the size m and the index modulus M of each, their memory orders, and whom a core byte names.
pub record Shape : Type 0 where
  pub size : Ring → ℕ
  pub modulus : Ring → ℕ
  pub orders : Orders
  pub names : (byte : ℕ) → Named

-- Where a core stands in its batch: at its beginning; at the load of the foreign index; with i bytes of the batch moved, so that the next is
-- byte i or, where none is left, the index store.
pub data Phase : Type 0 where
  start reload : Phase
  moving : (i : ℕ) → Phase

-- One core at one ring: the sizes of the batches left, the present one first; its phase; its own index as it loaded it last; the cached foreign
-- index; the bytes that it moved in this batch; the bytes of its completed batches.
pub record Side : Type 0 where
  pub batches : List ℕ
  pub phase : Phase
  pub own : ℕ
  pub cached : ℕ
  pub moved : List ℕ
  pub completed : List ℕ

-- One ring: both cores, the bytes in its slots, the bytes that are still to be pushed, and the bytes read so far.
pub record Queue : Type 0 where
  pub side : Core → Side
  pub slots : List ℕ
  pub feed : List ℕ
  pub out : List ℕ

-- The two sides with core c's replaced.
abbrev pub with_side : (Core → Side) → Core → Side → Core → Side
with_side f c s d = cond (same_core c d) s (f d)

-- The queues of all rings with ring r's replaced.
abbrev pub with_queue : (Ring → Queue) → Ring → Queue → Ring → Queue
with_queue f r q p = cond (eqb r p) q (f p)

-- The core that pushes into ring r; the other one pops. Core 0 is the producer of the first ring, core 1 that of the second.
abbrev pub pusher : Ring → Core
pusher zero = core0
pusher (suc r) = core1

-- Does core c push into ring r?
abbrev pub pushes : Ring → Core → Bool
pushes r c = same_core (pusher r) c

-- Room is (cached front + m - own) mod M for a push, (cached back - own) mod M for a pop: the lead is m or 0. Own is below M.
abbrev pub room_of : (lead M own cached : ℕ) → ℕ
room_of lead M own cached = (cached + lead + (M - own)) % M

-- The shortfall of a batch of size n: by how much room is below it, or 0 where the batch fits.
abbrev pub shortfall_of : (lead M n own cached : ℕ) → ℕ
shortfall_of lead M n own cached = n - room_of lead M own cached

abbrev pub lead : Shape → Ring → Core → ℕ
lead g r c = cond (pushes r c) (g.size r) 0

-- The shortfall of core c's batch, with the own index and the cached foreign one that it holds.
abbrev pub shortfall : Shape → Ring → Core → (n own cached : ℕ) → ℕ
shortfall g r c n own cached = shortfall_of (lead g r c) (g.modulus r) n own cached

-- Is room below the batch size: is anything missing?
abbrev pub is_short : Shape → Ring → Core → (n own cached : ℕ) → Bool
is_short g r c n own cached = ltb 0 (shortfall g r c n own cached)

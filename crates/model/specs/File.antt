-- The run file: a list of bytes, and where each of its parts lies.
use Rattle.std.specs.Prelude.{Bool, cond, List, [], ◌∷◌, ℕ, ◌+◌, ◌*◌, ◌/◌, ◌%◌, ◌^◌, eqb, get_or, take, drop}
use Rattle.order.specs.Trace.{Ring}
use Rattle.order.specs.Order.{Orders}
use Rattle.model.specs.Limits.{header_bytes}
use Rattle.model.specs.Queue.{pushes}

abbrev pub byte_at : List ℕ → ℕ → ℕ
byte_at f i = get_or f i 0

-- Four bytes from place i on, as a little-endian number.
abbrev pub number4 : List ℕ → ℕ → ℕ
number4 f i = byte_at f i + 256 * byte_at f (i + 1) + 65536 * byte_at f (i + 2) + 16777216 * byte_at f (i + 3)

unfoldable pub total : List ℕ → ℕ
total [] = 0
total (n ∷ ns) = n + total ns

-- Byte 0: the ring size, m.
abbrev pub ring_size : List ℕ → ℕ
ring_size f = byte_at f 0

-- Bytes 1 to 4: the index modulus, M.
abbrev pub modulus_of : List ℕ → ℕ
modulus_of f = number4 f 1

-- Byte 5: the order bits.
abbrev pub order_bits : List ℕ → ℕ
order_bits f = byte_at f 5

-- Bytes 6 and 7: how many push batches and how many pop batches.
abbrev pub push_count : List ℕ → ℕ
push_count f = byte_at f 6

abbrev pub pop_count : List ℕ → ℕ
pop_count f = byte_at f 7

-- Then the size of each push batch, and of each pop batch.
unfoldable pub push_sizes : List ℕ → List ℕ
push_sizes f = take (push_count f) (drop header_bytes f)

unfoldable pub pop_sizes : List ℕ → List ℕ
pop_sizes f = take (pop_count f) (drop (header_bytes + push_count f) f)

-- Where the sizes end and the bytes to push begin.
abbrev pub sizes_end : List ℕ → ℕ
sizes_end f = header_bytes + push_count f + pop_count f

-- The bytes to push, as many as the push sizes add up to.
unfoldable pub push_bytes : List ℕ → List ℕ
push_bytes f = take (total (push_sizes f)) (drop (sizes_end f) f)

-- Where the bytes to push end and the schedule begins.
unfoldable pub schedule_at : List ℕ → ℕ
schedule_at f = sizes_end f + total (push_sizes f)

-- An entry of the schedule: two bytes.
pub record Entry : Type 0 where
  pub core : ℕ
  pub age : ℕ

abbrev pub pairs : List ℕ → List Entry
pairs [] = []
pairs (a ∷ []) = []
pairs (a ∷ b ∷ l) = record { core = a; age = b } ∷ pairs l

-- Entries as bytes.
abbrev pub flat : List Entry → List ℕ
flat [] = []
flat (e ∷ es) = e.core ∷ e.age ∷ flat es

-- The schedule: the rest of the file.
unfoldable pub schedule_of : List ℕ → List Entry
schedule_of f = pairs (drop (schedule_at f) f)

-- Is bit k of n set?
abbrev pub bit : ℕ → ℕ → Bool
bit n k = eqb (n / 2 ^ k % 2) 1

-- Each ring's order bits, set for strong. Bit 0: the producer's load of front is acquire; bit 1: its store of back is release; bit 2: the
-- consumer's load of back is acquire; bit 3: its store of front is release.
abbrev pub orders_of : (Ring → ℕ) → Orders
orders_of bits = record {
  acquire = λ r c. cond (pushes r c) (bit (bits r) 0) (bit (bits r) 2);
  release = λ r c. cond (pushes r c) (bit (bits r) 1) (bit (bits r) 3);
}

-- What a file says of one ring: m, M, the order bits, the sizes of the push batches and of the pop batches, the bytes to push.
pub record Part : Type 0 where
  pub size : ℕ
  pub modulus : ℕ
  pub bits : ℕ
  pub push_sizes : List ℕ
  pub pop_sizes : List ℕ
  pub push_bytes : List ℕ

-- What a run file says of its one ring.
abbrev pub part_of : List ℕ → Part
part_of f = record {
  size = ring_size f;
  modulus = modulus_of f;
  bits = order_bits f;
  push_sizes = push_sizes f;
  pop_sizes = pop_sizes f;
  push_bytes = push_bytes f;
}

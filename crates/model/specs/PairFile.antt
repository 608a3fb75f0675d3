-- The run file of a pair: two rings between the same two cores, the second the other way round. Where each of its parts lies, whom its core bytes
-- name, and its machine.
use Rattle.std.specs.Prelude.{cond, List, ℕ, zero, suc, ◌+◌, ◌*◌, eqb, take, drop}
use Rattle.order.specs.Trace.{core0, core1, Ring}
use Rattle.model.specs.Limits.{header_bytes}
use Rattle.model.specs.File.{total, ring_size, modulus_of, order_bits, push_count, pop_count, Entry, pairs, Part}
use Rattle.model.specs.Queue.{Named, named, Shape}
use Rattle.model.specs.Run.{State, first_ring, machine_of, fresh_of, names_one}

-- The second ring, whose producer is the first ring's consumer.
abbrev pub second_ring : Ring
second_ring = 1

-- The file from ring r's eight bytes on: bytes 0 to 7 are the first ring's, bytes 8 to 15 say the same of the second.
abbrev pub header_of : Ring → List ℕ → List ℕ
header_of zero f = f
header_of (suc r) f = drop header_bytes f

-- Then the first ring's push sizes and pop sizes, and the second's: where ring r's begin.
abbrev pub sizes_at : Ring → List ℕ → ℕ
sizes_at zero f = 2 * header_bytes
sizes_at (suc r) f = 2 * header_bytes + push_count (header_of first_ring f) + pop_count (header_of first_ring f)

unfoldable pub push_sizes_of : Ring → List ℕ → List ℕ
push_sizes_of r f = take (push_count (header_of r f)) (drop (sizes_at r f) f)

unfoldable pub pop_sizes_of : Ring → List ℕ → List ℕ
pop_sizes_of r f = take (pop_count (header_of r f)) (drop (sizes_at r f + push_count (header_of r f)) f)

-- Where the sizes end.
abbrev pub pair_sizes_end : List ℕ → ℕ
pair_sizes_end f = sizes_at second_ring f + push_count (header_of second_ring f) + pop_count (header_of second_ring f)

-- Then the first ring's bytes to push, and the second's: where ring r's begin.
abbrev pub bytes_at : Ring → List ℕ → ℕ
bytes_at zero f = pair_sizes_end f
bytes_at (suc r) f = pair_sizes_end f + total (push_sizes_of first_ring f)

unfoldable pub push_bytes_of : Ring → List ℕ → List ℕ
push_bytes_of r f = take (total (push_sizes_of r f)) (drop (bytes_at r f) f)

-- Where the bytes to push end and the schedule begins.
unfoldable pub pair_schedule_at : List ℕ → ℕ
pair_schedule_at f = bytes_at second_ring f + total (push_sizes_of second_ring f)

-- The schedule: the rest of the file.
unfoldable pub pair_schedule_of : List ℕ → List Entry
pair_schedule_of f = pairs (drop (pair_schedule_at f) f)

-- What the file says of ring r.
abbrev pub parts_of : List ℕ → Ring → Part
parts_of f r = record {
  size = ring_size (header_of r f);
  modulus = modulus_of (header_of r f);
  bits = order_bits (header_of r f);
  push_sizes = push_sizes_of r f;
  pop_sizes = pop_sizes_of r f;
  push_bytes = push_bytes_of r f;
}

-- The core byte: 0 and 1 are the first ring's producer and consumer, 2 and 3 the second's. So 1 and 2 are one core, and 0 and 3 the other.
abbrev pub names_pair : (byte : ℕ) → Named
names_pair n = cond (eqb n 2) (named second_ring core1) (cond (eqb n 3) (named second_ring core0) (names_one n))

-- The machine of a pair's file, and its fresh state.
abbrev pub pair_shape : List ℕ → Shape
pair_shape f = machine_of (parts_of f) names_pair

abbrev pub pair_fresh : List ℕ → State
pair_fresh f = fresh_of (parts_of f)

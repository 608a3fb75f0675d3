-- Every weaker setting breaks in a pair too: for either ring, each setting of it other than all strong, and every lawful m and M, a pair's file that
-- races there, with no batches on the other ring, whatever that ring is.
use Rattle.std.specs.Prelude.{◌≡◌, List, [], map, ℕ, zero, suc, ◌+◌, ◌*◌, ◌%◌, ◌≤◌, ◌<◌, length}
use Rattle.order.specs.Trace.{Ring}
use Rattle.model.specs.Limits.{most_slots, least_modulus, most_modulus, most_order_bits, report_bytes}
use Rattle.model.specs.File.{byte_at, total, Entry, Part}
use Rattle.model.specs.Run.{first_ring}
use Rattle.model.specs.PairFile.{second_ring, pop_sizes_of, pair_schedule_of, parts_of}
use Rattle.model.specs.PairCodes.{LawfulPair}
use Rattle.model.specs.PairOutcome.{Lent, PairOutcome}
use Rattle.promises.specs.Call.{race_entry}
use Rattle.promises.specs.Written.{pair_with}
use Rattle.promises.specs.Alone.{report_in}
use Rattle.promises.specs.Weak.{race_part, race_turns}

-- A lawful m and M.
pub record Fit (m M : ℕ) : Type 0 where
  pub some_slot : 1 ≤ m
  pub slots : m ≤ most_slots
  pub modulus_low : least_modulus ≤ M
  pub modulus_high : M ≤ most_modulus
  pub divided : M % m ≡ 0
  pub apart : ¬ (M ≡ m)

-- The other of the two rings.
abbrev pub other_ring : Ring → Ring
other_ring zero = second_ring
other_ring (suc r) = first_ring

-- A ring with no batches.
abbrev pub idle_part : (m M bits : ℕ) → Part
idle_part m M bits = record { size = m; modulus = M; bits = bits; push_sizes = []; pop_sizes = []; push_bytes = [] }

-- The entry of the same core of ring r in a pair's file.
abbrev pub raised : Ring → Entry → Entry
raised r e = record { core = e.core + 2 * r; age = e.age }

-- The ring and the schedule that race by themselves, as ring r of a pair.
abbrev pub race_pair : Ring → (m M bits m' M' bits' : ℕ) → List ℕ
race_pair r m M bits m' M' bits' = pair_with r (race_part m M bits) (idle_part m' M' bits') (map (raised r) (race_turns m bits))

-- File f, a list of bytes, is a lawful pair's file; its ring r has this m, M and setting, and the other no batches; and with buffers just long enough
-- every outcome has code 0 and, in ring r's report, a race entry that is not 0.
pub record RacingPair (r : Ring) (m M bits : ℕ) (f : List ℕ) : Type 0 where
  pub bytes : (i : ℕ) → byte_at f i < 256
  pub lawful : LawfulPair f
  pub of_size : (parts_of f r).size ≡ m
  pub of_modulus : (parts_of f r).modulus ≡ M
  pub orders_are : (parts_of f r).bits ≡ bits
  pub none_pushed : (parts_of f (other_ring r)).push_sizes ≡ []
  pub none_popped : (parts_of f (other_ring r)).pop_sizes ≡ []
  pub races : (b : Lent) (c : ℕ) (b' : Lent)
      → length b.marks ≡ length (pair_schedule_of f)
      → length b.out₁ ≡ total (pop_sizes_of first_ring f) → length b.report₁ ≡ report_bytes
      → length b.out₂ ≡ total (pop_sizes_of second_ring f) → length b.report₂ ≡ report_bytes
      → PairOutcome f b c b' → (c ≡ 0) × (¬ (race_entry (report_in r b') ≡ 0))

-- Every setting of ring r below 15 races, at every lawful m and M, beside a ring of every lawful m' and M' and every setting.
abbrev pub EveryWeakerPairRaces : Type 0
EveryWeakerPairRaces = (r : Ring) → r < 2 → (m M bits m' M' bits' : ℕ) → Fit m M → bits < most_order_bits → Fit m' M' → bits' ≤ most_order_bits
    → RacingPair r m M bits (race_pair r m M bits m' M' bits')

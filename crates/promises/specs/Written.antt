-- A file written down, from what it says of its rings and from its schedule.
use Rattle.std.specs.Prelude.{List, ◌∷◌, ◌++◌, ℕ, zero, suc, length}
use Rattle.order.specs.Trace.{Ring}
use Rattle.model.specs.File.{Entry, flat, Part}
use Rattle.model.specs.Report.{le4}

-- A ring's eight bytes, before the rest of the file: m, M as four bytes, the order bits, the number of push batches and of pop batches.
abbrev pub eight_bytes : Part → List ℕ → List ℕ
eight_bytes p rest = p.size ∷ (le4 p.modulus ++ (p.bits ∷ length p.push_sizes ∷ length p.pop_sizes ∷ rest))

-- The run file of one ring.
unfoldable pub file_of : Part → List Entry → List ℕ
file_of p es = eight_bytes p (p.push_sizes ++ (p.pop_sizes ++ (p.push_bytes ++ flat es)))

-- The run file of a pair whose first ring is p and whose second is q.
unfoldable pub pair_file_of : Part → Part → List Entry → List ℕ
pair_file_of p q es = eight_bytes p (eight_bytes q (p.push_sizes ++ (p.pop_sizes ++ (q.push_sizes ++ (q.pop_sizes ++ (p.push_bytes ++ (q.push_bytes ++ flat es)))))))

-- The run file of a pair whose ring r is p and whose other ring is q.
abbrev pub pair_with : Ring → Part → Part → List Entry → List ℕ
pair_with zero p q es = pair_file_of p q es
pair_with (suc r) p q es = pair_file_of q p es

-- The report of a ring: twelve numbers, each taken from the results of the run that count for the ring, the trace and the file.
use Rattle.std.specs.Prelude.{Bool, true, false, cond, ◌&&◌, not, List, [], ◌∷◌, ◌++◌, ℕ, suc, ◌+◌, ◌-◌, ◌/◌, ◌%◌, max, eqb}
use Rattle.std.proofs.Math.Option.{Option, none, some}
use Rattle.order.specs.Trace.{Core, other, same_core, Ring, index, Trace, who, latest, value_of}
use Rattle.model.specs.File.{total, Part, part_of}
use Rattle.model.specs.Marks.{batch_failed, data_loaded, index_stored, race_found, is_performed}
use Rattle.model.specs.Queue.{Shape, Side, Queue, pusher, shortfall}
use Rattle.model.specs.Run.{Result, State, first_ring, fresh_queue, shape_of}

-- How many results pass a test.
abbrev pub one : Bool → ℕ
one true = 1
one false = 0

abbrev pub count : (Result → Bool) → List Result → ℕ
count p [] = 0
count p (x ∷ xs) = one (p x) + count p xs

abbrev pub marked : ℕ → Result → Bool
marked n x = eqb x.mark n

abbrev pub entry_performed : Result → Bool
entry_performed x = is_performed x.mark

abbrev pub entry_refused : Result → Bool
entry_refused x = not (is_performed x.mark)

-- Was the entry core c's, and got this mark?
abbrev pub is_core : Core → Option Core → Bool
is_core c none = false
is_core c (some d) = same_core c d

abbrev pub marked_of : Core → ℕ → Result → Bool
marked_of c n x = marked n x && is_core c (who x.did)

-- Of core c's batches, in order, those that were completed. A batch ends failed or completed, and the next one follows.
abbrev pub completed_of : {A : Type 0} → Core → List Result → List A → List A
completed_of c [] bs = []
completed_of c (x ∷ xs) [] = []
completed_of c (x ∷ xs) (b ∷ bs) =
    let failed = completed_of c xs bs in
    let completed = b ∷ completed_of c xs bs in
    let open_still = completed_of c xs (b ∷ bs) in
    cond (marked_of c batch_failed x) failed (cond (marked_of c index_stored x) completed open_still)

-- The results of the entries that count for ring r: with one ring, all.
abbrev pub of_ring : Ring → List Result → List Result
of_ring r [] = []
of_ring r (x ∷ xs) = let later = of_ring r xs in cond (eqb x.ring r) (x ∷ later) later

-- The number of the first entry whose result passes a test, the entries being counted from n; 0 where none does.
abbrev pub entry_with : (Result → Bool) → ℕ → List Result → ℕ
entry_with p n [] = 0
entry_with p n (x ∷ xs) = cond (p x) n (entry_with p (suc n) xs)

-- Did it race, and does it count for ring r?
abbrev pub raced_at : Ring → Result → Bool
raced_at r x = eqb x.ring r && marked race_found x

-- The racing entry, where it counts for ring r, or 0. All entries are counted, whichever ring they count for.
abbrev pub race_of : Ring → List Result → ℕ
race_of r xs = entry_with (raced_at r) 1 xs

-- The partner of the racing entry, or 0.
abbrev pub partner_of : List Result → ℕ
partner_of [] = 0
partner_of (x ∷ xs) = cond (marked race_found x) x.partner (partner_of xs)

-- (newest back - newest front) mod M, at ring r.
abbrev pub occupancy : Ring → (M : ℕ) → Trace → ℕ
occupancy r M t = (value_of t (latest t (index r (pusher r))) + (M - value_of t (latest t (index r (other (pusher r)))))) % M

-- By how much core c's batch at ring r failed: the batch is the first of those that the core had, the indexes are those that it holds after the reload.
abbrev pub missed : Shape → Ring → Core → (had : List ℕ) → Side → ℕ
missed g r c [] me = 0
missed g r c (n ∷ rest) me = shortfall g r c n me.own me.cached

-- The shortfalls of core c's failed batches, in order. The results count for ring r, whose queue before the first of them is q.
abbrev pub shortfalls_of : Shape → Ring → Core → Queue → List Result → List ℕ
shortfalls_of g r c q [] = []
shortfalls_of g r c q (x ∷ xs) =
    let later = shortfalls_of g r c x.queue xs in
    cond (marked_of c batch_failed x) (missed g r c (q.side c).batches (x.queue.side c) ∷ later) later

-- The largest of some numbers, 0 of none.
abbrev pub largest : List ℕ → ℕ
largest [] = 0
largest (n ∷ ns) = max n (largest ns)

-- The largest shortfall of core c's failed batches at ring r, of which the file says p. The results count for the ring.
abbrev pub largest_shortfall : Shape → Ring → Part → Core → List Result → ℕ
largest_shortfall g r p c xs = largest (shortfalls_of g r c (fresh_queue r p) xs)

-- The twelve numbers of ring r, of which the file says p, after a run with these results and this end.
unfoldable pub report_of : Shape → Ring → Part → List Result → State → List ℕ
report_of g r p xs z =
    let mine = of_ring r xs in
    let producer = pusher r in
    let consumer = other (pusher r) in
    count entry_performed mine
    ∷ count entry_refused mine
    ∷ total (completed_of producer mine p.push_sizes)
    ∷ total (completed_of consumer mine p.pop_sizes)
    ∷ count (marked data_loaded) mine
    ∷ occupancy r p.modulus z.trace
    ∷ count (marked_of producer batch_failed) mine
    ∷ count (marked_of consumer batch_failed) mine
    ∷ race_of r xs
    ∷ partner_of mine
    ∷ largest_shortfall g r p producer mine
    ∷ largest_shortfall g r p consumer mine
    ∷ []

-- The numbers of a run of file f, which has one ring.
abbrev pub numbers_of : List ℕ → List Result → State → List ℕ
numbers_of f xs z = report_of (shape_of f) first_ring (part_of f) xs z

-- A number as four bytes, little-endian; and a list of numbers.
abbrev pub le4 : ℕ → List ℕ
le4 x = x % 256 ∷ x / 256 % 256 ∷ x / 65536 % 256 ∷ x / 16777216 % 256 ∷ []

unfoldable pub bytes_of : List ℕ → List ℕ
bytes_of [] = []
bytes_of (x ∷ xs) = le4 x ++ bytes_of xs

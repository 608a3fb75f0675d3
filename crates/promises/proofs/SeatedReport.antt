-- The marks and the report of a run of some rings over entries that all name ring r: those of the ring alone.
use mathlib.Core.Path.{◌≡◌, refl, ap, ◌∙◌}
use mathlib.Core.Bool.{Bool, cond, ◌&&◌}
use mathlib.Core.List.{List, [], ◌∷◌, map}
use Prim.Native.Nat.{ℕ, suc, ◌+◌, ◌-◌, ◌%◌}
use borrow.Author.Tests.{eq-eqb}
use Rattle.order.specs.Trace.{Core, core0, core1, other, Ring, index, Act, idle, load, store, Trace, who, latest, value_of}
use Rattle.model.specs.File.{Part}
use Rattle.model.specs.Marks.{batch_failed, data_loaded, index_stored, race_found}
use Rattle.model.specs.Queue.{Named, Shape, Side, Queue, pusher}
use Rattle.model.specs.Run.{Result, State, first_ring, machine_of, fresh_queue, names_one}
use Rattle.model.specs.Report.{one, count, marked, entry_performed, entry_refused, is_core, marked_of, completed_of, of_ring, entry_with, raced_at, race_of, partner_of, occupancy, missed, shortfalls_of, largest, largest_shortfall, report_of}
use Rattle.model.specs.Outcome.{marks_of}
use Rattle.model.proofs.OneRing.{AllAt, of_all}
use Rattle.promises.proofs.Seat.{seat, Here, seat_same, seat_pushes, moved, moved_all, moved_value, latest_moved}
use Rattle.promises.proofs.Seated.{seated, seated_side}
use Rattle.promises.proofs.SeatedRun.{result_at, Alike, fresh_same}

module _ (r : Ring) where
  abbrev pub all_at : List Result → List Result
  all_at xs = map (result_at r) xs

  pub marks_same : (xs : List Result) → marks_of (all_at xs) ≡ marks_of xs
  marks_same [] = refl
  marks_same (x ∷ xs) = ap (λ (l : List ℕ). x.mark ∷ l) (marks_same xs)

  -- Every one of them counts for ring r.
  mine_all : (xs : List Result) → of_ring r (all_at xs) ≡ all_at xs
  mine_all xs = of_all r (all_at xs) (go xs)
    where
      go : (xs : List Result) → AllAt r (all_at xs)
      go [] = tt
      go (x ∷ xs) = (refl, go xs)

  -- A test that passes a result where another passes what it was.
  count_same : (p q : Result → Bool) → ((x : Result) → p (result_at r x) ≡ q x) → (xs : List Result) → count p (all_at xs) ≡ count q xs
  count_same p q h [] = refl
  count_same p q h (x ∷ xs) = λ i. one (h x i) + count_same p q h xs i

  entry_same : (p q : Result → Bool) → (n : ℕ) (xs : List Result) → AllAt first_ring xs
      → ((x : Result) → x.ring ≡ first_ring → p (result_at r x) ≡ q x) → entry_with p n (all_at xs) ≡ entry_with q n xs
  entry_same p q n [] k h = refl
  entry_same p q n (x ∷ xs) k h = λ i. cond (h x k.0 i) n (entry_same p q (suc n) xs k.1 h i)

  who_same : (c : Core) (a : Act) → is_core (seat r c) (who (moved r a)) ≡ is_core c (who a)
  who_same c idle = refl
  who_same c (load d x s) = seat_same r c d
  who_same c (store d x v) = seat_same r c d

  marked_same : (c : Core) (n : ℕ) (x : Result) → marked_of (seat r c) n (result_at r x) ≡ marked_of c n x
  marked_same c n x = ap (λ (b : Bool). marked n x && b) (who_same c x.did)

  completed_same : (c : Core) (xs : List Result) (bs : List ℕ) → completed_of (seat r c) (all_at xs) bs ≡ completed_of c xs bs
  completed_same c [] bs = refl
  completed_same c (x ∷ xs) [] = refl
  completed_same c (x ∷ xs) (b ∷ bs) = λ i. cond (marked_same c batch_failed x i) (completed_same c xs bs i)
      (cond (marked_same c index_stored x i) (b ∷ completed_same c xs bs i) (completed_same c xs (b ∷ bs) i))

  race_same : (xs : List Result) → AllAt first_ring xs → race_of r (all_at xs) ≡ race_of first_ring xs
  race_same xs k = entry_same (raced_at r) (raced_at first_ring) 1 xs k (λ x e. rw (eq-eqb r r refl, eq-eqb x.ring first_ring e) refl)

  partner_same : (xs : List Result) → partner_of (all_at xs) ≡ partner_of xs
  partner_same [] = refl
  partner_same (x ∷ xs) = ap (λ n. cond (marked race_found x) x.partner n) (partner_same xs)

  occupancy_same : (M : ℕ) (t : Trace) → Here t → occupancy r M (moved_all r t) ≡ occupancy first_ring M t
  occupancy_same M t h =
      let value : (c : Core) → value_of (moved_all r t) (latest (moved_all r t) (index r (seat r c))) ≡ value_of t (latest t (index first_ring c)) =
      λ c. ap (value_of (moved_all r t)) (latest_moved r (index first_ring c) refl t h) ∙ moved_value r t (latest t (index first_ring c)) in
      λ i. (value core0 i + (M - value core1 i)) % M

module _ (p : Ring → Part) (names : ℕ → Named) (r : Ring) where
  abbrev g : Shape
  g = machine_of p names

  abbrev g₁ : Shape
  g₁ = machine_of (λ q. p r) names_one

  missed_same : (c : Core) (had : List ℕ) (me : Side) → missed g r (seat r c) had me ≡ missed g₁ first_ring c had me
  missed_same c [] me = refl
  missed_same c (n ∷ rest) me = rw (seat_pushes r c)

  shortfalls_same : (c : Core) (q : Queue) (xs : List Result) → shortfalls_of g r (seat r c) (seated r q) (all_at r xs) ≡ shortfalls_of g₁ first_ring c q xs
  shortfalls_same c q [] = refl
  shortfalls_same c q (x ∷ xs) =
      let by : missed g r (seat r c) ((seated r q).side (seat r c)).batches ((seated r x.queue).side (seat r c))
      ≡ missed g₁ first_ring c (q.side c).batches (x.queue.side c) =
      (λ i. missed g r (seat r c) (seated_side r q c i).batches (seated_side r x.queue c i)) ∙ missed_same c (q.side c).batches (x.queue.side c) in
      let later = shortfalls_same c x.queue xs in
      λ i. cond (marked_same r c batch_failed x i) (by i ∷ later i) (later i)

  largest_same : (c : Core) (xs : List Result) → largest_shortfall g r (p r) (seat r c) (all_at r xs) ≡ largest_shortfall g₁ first_ring (p r) c xs
  largest_same c xs =
      ap (λ (q : Queue). largest (shortfalls_of g r (seat r c) q (all_at r xs))) (fresh_same p names r).queue_is
      ∙ ap largest (shortfalls_same c (fresh_queue first_ring (p r)) xs)

  -- THE REPORT is that of the ring alone.
  pub report_same : (xs : List Result) → AllAt first_ring xs → (z z₁ : State) → Alike r z z₁ → Here z₁.trace
      → report_of g r (p r) (all_at r xs) z ≡ report_of g₁ first_ring (p r) xs z₁
  unfolding report_of
  report_same xs k z z₁ a h =
      let performed = count_same r entry_performed entry_performed (λ x. refl) xs in
      let refused = count_same r entry_refused entry_refused (λ x. refl) xs in
      let pushes = completed_same r core0 xs (p r).push_sizes in
      let pops = completed_same r core1 xs (p r).pop_sizes in
      let loads = count_same r (marked data_loaded) (marked data_loaded) (λ x. refl) xs in
      let left = ap (occupancy r (p r).modulus) a.trace_is ∙ occupancy_same r (p r).modulus z₁.trace h in
      let failed₀ = count_same r (marked_of (pusher r) batch_failed) (marked_of core0 batch_failed) (marked_same r core0 batch_failed) xs in
      let failed₁ = count_same r (marked_of (other (pusher r)) batch_failed) (marked_of core1 batch_failed) (marked_same r core1 batch_failed) xs in
      let race = race_same r xs k in
      let partner = partner_same r xs in
      let largest₀ = largest_same core0 xs in
      let largest₁ = largest_same core1 xs in
      cc (mine_all r xs, of_all first_ring xs k, performed, refused, pushes, pops, loads, left, failed₀, failed₁, race, partner, largest₀, largest₁)

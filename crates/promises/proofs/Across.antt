-- What one ring alone has and a pair has not: the two laws of one ring, and the two runs of a pair.
use mathlib.Core.Path.{◌≡◌, refl, ap}
use mathlib.Core.List.{[], ◌∷◌}
use Prim.Native.Nat.{ℕ}
use native.Mathlib.Omega.{arith}
use lib.ListN.{take}
use Rattle.order.specs.Trace.{Core, core0, core1, Ring, index, slot, load, store, Trace, act, who}
use Rattle.order.specs.Order.{sequenced, synchronised, chain}
use Rattle.order.proofs.Trace.{clash, act_pos, at, newest, older}
use Rattle.order.proofs.Chain.{Way, first, along, across, way}
use Rattle.order.proofs.Coherence.{passed_by_record, AllIn}
use Rattle.model.specs.File.{total}
use Rattle.model.specs.Run.{first_ring, shape_of}
use Rattle.model.specs.PairFile.{push_sizes_of, pop_sizes_of, push_bytes_of, pair_schedule_at, pair_schedule_of, pair_shape, pair_fresh}
use Rattle.model.specs.PairCodes.{pair_file_table}
use Rattle.model.specs.PairWorked.{hides, orders}
use Rattle.model.specs.computed.Machine.{results, ends}
use Rattle.model.proofs.Formed.{run_formed}
use Rattle.model.proofs.Reach.{run_in, run_hidden_is_passed}
use Rattle.model.proofs.Some.{some_run}
use Rattle.promises.specs.Across.{OneHidesPassed, PairHidesUnpassed, OneOrdersNothing, PairOrdersAcross}

pub one_hides_passed : OneHidesPassed
one_hides_passed f es xs s run c n st h = run_hidden_is_passed f run c n st h

-- Every load of an index in a trace is of the ring that all are of.
load_in : (r : Ring) (t : Trace) → AllIn r t → (l : ℕ) (c d : Core) (p : Ring) (s : ℕ) → act t l ≡ load c (index p d) s → p ≡ r
load_in r [] h l c d p s e = clash (cc)
load_in r (a ∷ t) h l c d p s e = elim (at a t l c (ap who e)) [
  | newest y z ↦ h.0 c d p s (cc)
  | older y z ↦ load_in r t h.1 l c d p s (cc)
]

pub one_orders_nothing : OneOrdersNothing
one_orders_nothing f weak es xs s run i j a b h = go (way (shape_of f).orders s.trace (run_formed tt run) h).1
  where
    go : Way (shape_of f).orders s.trace i j → ⊥
    go (first e) = let p = act_pos s.trace i core0 a in omega arith
    go (along core0 u v) = clash (cc)
    go (along core1 u v) = clash (cc)
    go (across core0 r v n l u g x y z w k q) = clash (cc)
    go (across core1 r v n l u g x y z w k q) =
        let e : r ≡ first_ring = load_in first_ring s.trace (run_in f tt run) l core1 core0 r n z in
        let acquires = rw e at w in
        let releases = rw e at y in
        clash (cc)

-- What the first eight entries of the run `hides` did, newest first: by way of the second ring core 1 learns what core 0 did.
abbrev before : Trace
before =
    load core1 (index 0 core1) 0
    ∷ load core1 (index 1 core0) 5
    ∷ load core1 (index 1 core1) 0
    ∷ store core0 (index 1 core0) 0
    ∷ load core0 (index 1 core0) 0
    ∷ store core0 (index 0 core0) 1
    ∷ store core0 (slot 0 0) 65
    ∷ load core0 (index 0 core0) 0
    ∷ []

pub pair_hides_unpassed : PairHidesUnpassed
unfolding total push_sizes_of pop_sizes_of push_bytes_of pair_schedule_at pair_schedule_of pair_file_table
pair_hides_unpassed =
    let f = hides.file in
    let es = take 8 (pair_schedule_of f) in
    record {
      lawful = refl;
      results = results (pair_shape f) (pair_fresh f) es;
      end = ends (pair_shape f) (pair_fresh f) es;
      run = some_run (pair_shape f) (pair_fresh f) es tt;
      hidden = record {
        by = 3;
        stores_it = refl;
        later = omega arith;
        before = chain (sequenced {i = 3} {j = 5} core0 refl refl (omega arith)) (
            chain (synchronised {i = 5} {j = 7} core1 1 0 refl refl refl refl) (sequenced {i = 7} {j = 9} core1 refl refl (omega arith)));
      };
      not_passed = λ h. let k = (passed_by_record before core1 (index 0 core0) 0).0 h in omega arith;
    }

pub pair_orders_across : PairOrdersAcross
unfolding total push_sizes_of pop_sizes_of push_bytes_of pair_schedule_at pair_schedule_of pair_file_table
pair_orders_across =
    let f = orders.file in
    let es = pair_schedule_of f in
    record {
      lawful = refl;
      back_is_weak = refl;
      results = results (pair_shape f) (pair_fresh f) es;
      end = ends (pair_shape f) (pair_fresh f) es;
      run = some_run (pair_shape f) (pair_fresh f) es tt;
      place = 0;
      byte = 65;
      stored = refl;
      loaded = refl;
      before = chain (sequenced {i = 2} {j = 5} core0 refl refl (omega arith)) (
          chain (synchronised {i = 5} {j = 7} core1 1 0 refl refl refl refl) (sequenced {i = 7} {j = 10} core1 refl refl (omega arith)));
    }

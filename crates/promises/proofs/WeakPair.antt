-- Every setting of a ring of a pair other than all strong races: the ring races by itself, and with no entry for the other ring it is by itself.
use mathlib.Core.Path.{◌≡◌, refl, sym, ap, ◌∙◌, subst}
use mathlib.Core.Bool.{Bool, true, false, cond}
use mathlib.Core.List.{List, [], ◌∷◌, map}
use Prim.Native.Nat.{ℕ, zero, suc, ◌+◌, ◌-◌, ◌*◌, ◌≤◌, ◌<◌}
use native.Mathlib.Omega.{arith}
use lib.ListN.{length, length-map}
use Rattle.order.specs.Trace.{Ring}
use Rattle.model.specs.Limits.{most_order_bits, report_bytes}
use Rattle.model.specs.File.{total, Entry, flat, schedule_of, Part, part_of}
use Rattle.model.specs.Run.{first_ring}
use Rattle.model.specs.PairFile.{second_ring, pop_sizes_of, pair_schedule_of, parts_of}
use Rattle.model.specs.PairCodes.{LawfulPair}
use Rattle.model.specs.PairOutcome.{Lent, PairOutcome}
use Rattle.model.specs.Outcome.{Outcome}
use Rattle.model.proofs.Ranges.{multiple_above}
use Rattle.model.proofs.PairRanges.{PairRoom, lawful_pair_code}
use Rattle.promises.specs.Same.{back_syncs}
use Rattle.promises.specs.Written.{file_of, pair_with}
use Rattle.promises.specs.Alone.{out_of, report_in, AllName, lowered, alone}
use Rattle.promises.specs.Weak.{turns, producer, back_part, back_turns, front_part, front_turns, race_part, race_turns, race_file, Racing}
use Rattle.promises.specs.WeakPair.{Fit, other_ring, idle_part, raised, race_pair, EveryWeakerPairRaces}
use Rattle.promises.proofs.Written.{Whole, InRange, written_schedule, written_part}
use Rattle.promises.proofs.Bytes.{Bytes, bytes-at, Small, pair_file_bytes}
use Rattle.promises.proofs.PairWritten.{pair_written_schedule, written_first, written_second, pair_written_length, pair_written_lawful}
use Rattle.promises.proofs.Alone.{alone_is_one}
use Rattle.promises.proofs.Weak.{Writable, back_writable, front_writable, every_weaker_setting_races}

-- A pair's file written from ring r and an idle ring beside it.
record At (r : Ring) (p q : Part) (es : List Entry) (f : List ℕ) : Type 0 where
  here : parts_of f r ≡ p
  there : parts_of f (other_ring r) ≡ q
  schedule : pair_schedule_of f ≡ es
  lawful : LawfulPair f
  bytes : Bytes f

module _ (p q : Part) (w : Whole p) (v : Whole q) (i : InRange p) (j : InRange q) (s : Small p) (u : Small q) (es : List Entry) (b : Bytes (flat es))
    (short : length p.push_sizes + length p.pop_sizes + length q.push_sizes + length q.pop_sizes + length p.push_bytes + length q.push_bytes
    + 2 * length es ≤ 65000) where
  pair_at : (r : Ring) → r < 2 → At r p q es (pair_with r p q es)
  pair_at zero k = record {
    here = written_first p q w v es;
    there = written_second p q w v es;
    schedule = pair_written_schedule p q w v es;
    lawful = let l = pair_written_length p q w v es in pair_written_lawful p q w v es i j (omega arith);
    bytes = pair_file_bytes p q es s u b;
  }
  pair_at (suc zero) k = record {
    here = written_second q p v w es;
    there = written_first q p v w es;
    schedule = pair_written_schedule q p v w es;
    lawful = let l = pair_written_length q p v w es in pair_written_lawful q p v w es j i (omega arith);
    bytes = pair_file_bytes q p es u s b;
  }
  pair_at (suc (suc r)) k = absurd (omega arith)

-- Entries of the two cores, raised to ring r: they name it, they are bytes, and lowered they are what they were.
abbrev Low : List Entry → Type 0
Low [] = Unit {0}
Low (e ∷ es) = (e.core < 2) × Low es

raised_names : (r : Ring) (es : List Entry) → Low es → AllName r (map (raised r) es)
raised_names r [] h = tt
raised_names r (e ∷ es) h = let l = h.0 in (omega arith, omega arith, raised_names r es h.1)

raised_bytes : (r : Ring) → r < 2 → (es : List Entry) → Low es → Bytes (flat es) → Bytes (flat (map (raised r) es))
raised_bytes r k [] h b = tt
raised_bytes r k (e ∷ es) h b = let l = h.0 in (omega arith, (b.1.0, raised_bytes r k es h.1 b.1.1))

raised_back : (r : Ring) (es : List Entry) → map (lowered r) (map (raised r) es) ≡ es
raised_back r [] = refl
raised_back r (e ∷ es) =
    let c : (e.core + 2 * r) - 2 * r ≡ e.core = omega arith in
    λ i. record { core = c i; age = e.age } ∷ raised_back r es i

low_turns : (core k : ℕ) (rest : List Entry) → core < 2 → Low rest → Low (turns core k rest)
low_turns core zero rest h l = l
low_turns core (suc k) rest h l = (h, low_turns core k rest h l)

-- What races by itself.
module _ (m M bits : ℕ) (fit : Fit m M) (b : bits < most_order_bits) where
  mM : m < M
  mM = multiple_above m M fit.some_slot fit.modulus_low fit.divided fit.apart

  race_writable : Writable (race_part m M bits) (race_turns m bits)
  race_writable = go (back_syncs bits)
    where
      go : (y : Bool) → Writable (cond y (front_part m M bits) (back_part m M bits)) (cond y (front_turns m) back_turns)
      go true = front_writable m M bits fit.some_slot fit.slots fit.modulus_low fit.modulus_high fit.divided mM b
      go false = back_writable m M bits fit.some_slot fit.slots fit.modulus_low fit.modulus_high fit.divided mM b

  race_low : Low (race_turns m bits)
  race_low = go (back_syncs bits)
    where
      go : (y : Bool) → Low (cond y (front_turns m) back_turns)
      go true = low_turns producer (suc (suc m)) _ (omega arith) (omega arith)
      go false = omega arith

  race-of : ((race_part m M bits).size ≡ m) × ((race_part m M bits).modulus ≡ M) × ((race_part m M bits).bits ≡ bits)
  race-of = go (back_syncs bits)
    where
      go : (y : Bool) → ((cond y (front_part m M bits) (back_part m M bits)).size ≡ m) × ((cond y (front_part m M bits) (back_part m M bits)).modulus ≡ M)
          × ((cond y (front_part m M bits) (back_part m M bits)).bits ≡ bits)
      go true = (refl, refl, refl)
      go false = (refl, refl, refl)

  races_alone : Racing m M bits (race_file m M bits)
  races_alone = every_weaker_setting_races m M bits fit.some_slot fit.slots fit.modulus_low fit.modulus_high fit.divided fit.apart b

-- Buffers just long enough for a pair are just long enough for the ring.
ring_lengths : (f : List ℕ) (b : Lent) (r : Ring) → r < 2
    → length b.out₁ ≡ total (pop_sizes_of first_ring f) → length b.report₁ ≡ report_bytes
    → length b.out₂ ≡ total (pop_sizes_of second_ring f) → length b.report₂ ≡ report_bytes
    → (length (out_of r b) ≡ total (pop_sizes_of r f)) × (length (report_in r b) ≡ report_bytes)
ring_lengths f b zero k o₁ r₁ o₂ r₂ = (o₁, r₁)
ring_lengths f b (suc zero) k o₁ r₁ o₂ r₂ = (o₂, r₂)
ring_lengths f b (suc (suc r)) k o₁ r₁ o₂ r₂ = absurd (omega arith)

-- No bytes for no batches.
no_bytes : length {A = ℕ} [] ≡ total []
unfolding total
no_bytes = refl

-- EVERY WEAKER SETTING OF A RING RACES.
pub every_weaker_pair_races : EveryWeakerPairRaces
every_weaker_pair_races r k m M bits m' M' bits' fit lo fit' lo' =
    let p = race_part m M bits in
    let q = idle_part m' M' bits' in
    let es = race_turns m bits in
    let up = map (raised r) es in
    let w = race_writable m M bits fit lo in
    let f = race_pair r m M bits m' M' bits' in
    let above = multiple_above m' M' fit'.some_slot fit'.modulus_low fit'.divided fit'.apart in
    let high = fit'.modulus_high in
    let slots = fit'.slots in
    let idle_whole : Whole q = record { modulus_fits = omega arith; bytes_are = no_bytes } in
    let idle_range : InRange q = record {
      some_slot = fit'.some_slot;
      slots = fit'.slots;
      modulus_low = fit'.modulus_low;
      modulus_high = fit'.modulus_high;
      divided = fit'.divided;
      above = above;
      orders = lo';
    } in
    let idle_small : Small q = record {
      size_is = omega arith;
      bits_are = omega arith;
      few_pushes = omega arith;
      few_pops = omega arith;
      pushes_are = tt;
      pops_are = tt;
      bytes_are = tt;
    } in
    let n = length-map es (raised r) in
    let s = w.short in
    let a = pair_at p q w.whole idle_whole w.in_range idle_range w.small idle_small up
    (raised_bytes r k es (race_low m M bits fit lo) w.entries_small) (omega arith) r k in
    let is = race-of m M bits fit lo in
    let one = races_alone m M bits fit lo in
    let same : alone r f ≡ race_file m M bits =
    (λ i. file_of (a.here i) (map (lowered r) (a.schedule i))) ∙ ap (file_of p) (raised_back r es) in
    record {
      bytes = bytes-at f a.bytes;
      lawful = a.lawful;
      of_size = ap (λ (x : Part). x.size) a.here ∙ is.0;
      of_modulus = ap (λ (x : Part). x.modulus) a.here ∙ is.1;
      orders_are = ap (λ (x : Part). x.bits) a.here ∙ is.2;
      none_pushed = ap (λ (x : Part). x.push_sizes) a.there;
      none_popped = ap (λ (x : Part). x.pop_sizes) a.there;
      races = λ b c b' fm fo₁ fr₁ fo₂ fr₂ o.
          let room : PairRoom f (length b.marks) (length b.out₁) (length b.report₁) (length b.out₂) (length b.report₂) =
          record { marks_fit = omega arith; out₁_fits = omega arith; report₁_fits = omega arith; out₂_fits = omega arith; report₂_fits = omega arith } in
          let code0 : c ≡ 0 = o.code_is ∙ lawful_pair_code f _ _ _ _ _ a.lawful room in
          let call = alone_is_one r k f b b' (subst (λ (x : ℕ). PairOutcome f b x b') code0 o)
          (subst (λ (l : List Entry). AllName r l) (sym a.schedule) (raised_names r es (race_low m M bits fit lo))) in
          let here = subst (λ (l : List ℕ). Outcome l b.marks (out_of r b) (report_in r b) 0 b'.marks (out_of r b') (report_in r b')) same call in
          let fits = ring_lengths f b r k fo₁ fr₁ fo₂ fr₂ in
          let many : length (pair_schedule_of f) ≡ length es = ap length a.schedule ∙ n in
          let schedule : length (schedule_of (race_file m M bits)) ≡ length es = ap length (written_schedule p w.whole es) in
          let sizes : (part_of (race_file m M bits)).pop_sizes ≡ pop_sizes_of r f =
          ap (λ (x : Part). x.pop_sizes) (written_part p w.whole es) ∙ sym (ap (λ (x : Part). x.pop_sizes) a.here) in (
            code0,
            (one.races b.marks (out_of r b) (report_in r b) 0 b'.marks (out_of r b') (report_in r b') (omega arith)
                (fits.0 ∙ ap total (sym sizes)) fits.1 here).1,
          );
    }

-- The run file's parts as the code reads them, and the small questions that code and definition both ask.
use mathlib.Core.Path.{◌≡◌, refl, ◌∙◌}
use mathlib.Core.Bool.{Bool, true, false, cond, ◌&&◌}
use mathlib.Core.List.{List, [], ◌∷◌}
use Prim.Native.Nat.{ℕ, zero, suc, ◌+◌, ◌/◌, ◌<◌, max}
use native.Mathlib.Omega.{arith}
use native.Mathlib.Numerals.{add-one}
use lib.Dec.{ltb}
use lib.ListN.{get_or, length, take, drop}
use lib.Seq.{drop-cons, get_or-take, get_or-drop}
use Rattle.std.proofs.Math.Bool.{and_comm}
use Rattle.order.specs.Trace.{Core, core0, core1, other, same_core, index, load, Trace}
use Rattle.order.specs.computed.Record.{know, syncs}
use Rattle.order.proofs.Trace.{same_self}
use Rattle.model.specs.File.{byte_at, total, push_count, pop_count, push_sizes, pop_sizes, sizes_end, push_bytes, bit, part_of}
use Rattle.model.specs.Codes.{Lawful}
use Rattle.model.specs.Queue.{Phase, start, reload, moving}
use Rattle.model.specs.Run.{first_ring, names_one}
use Rattle.model.proofs.Laid.{Ranges, Laid, lawful_ranges, lawful_laid}
use Rattle.ring.specs.computed.Reads.{size_at, byte_for}
use Rattle.ring.specs.computed.Orders.{orders_of}
use Rattle.ring.specs.computed.Moves.{syncs_of, learnt_of, phase_after}
use Rattle.ring.specs.declared.who.Who.TheVariants.{Producer}
use Rattle.ring.proofs.Site.{Site, part, shape, producer, whom_of, whom, seat, sizes_of, Fit}

-- The one ring of a run file.
abbrev pub site_of : List ℕ → Site
site_of f = record { rings = λ r. part_of f; names = names_one; ring = first_ring }

-- A lawful file of bytes.
pub record Good (f : List ℕ) : Type 0 where
  pub bytes : (k : ℕ) → byte_at f k < 256
  pub lawful : Lawful f
  pub ranges : Ranges f
  pub laid : Laid f
  pub fit : Fit (site_of f)

-- A part of a list of bytes is one.
pub get_or-take_small : (n : ℕ) (l : List ℕ) → ((k : ℕ) → get_or l k 0 < 256) → (k : ℕ) → get_or (take n l) k 0 < 256
get_or-take_small zero l h k = omega arith
get_or-take_small (suc n) [] h k = omega arith
get_or-take_small (suc n) (x ∷ l) h zero = h 0
get_or-take_small (suc n) (x ∷ l) h (suc k) = get_or-take_small n l (λ j. h (suc j)) k

pub get_or-drop_small : (n : ℕ) (l : List ℕ) → ((k : ℕ) → get_or l k 0 < 256) → (k : ℕ) → get_or (drop n l) k 0 < 256
get_or-drop_small n l h k = rw (get_or-drop n l k 0) (h (n + k))

module _ {f : List ℕ} (b : (k : ℕ) → byte_at f k < 256) (laid : Laid f) where
  lengths : (c : Core) → length (sizes_of (site_of f) c) ≡ byte_at f (6 + seat (site_of f) c)
  lengths core0 = laid.push-sizes
  lengths core1 = laid.pop-sizes

  sizes_small : (c : Core) (k : ℕ) → get_or (sizes_of (site_of f) c) k 0 < 256
  unfolding push_sizes pop_sizes
  sizes_small core0 k = get_or-take_small (push_count f) (drop 8 f) (get_or-drop_small 8 f b) k
  sizes_small core1 k = get_or-take_small (pop_count f) (drop (8 + push_count f) f) (get_or-drop_small (8 + push_count f) f b) k

  bytes_small : (k : ℕ) → get_or (push_bytes f) k 0 < 256
  unfolding push_bytes
  bytes_small k = get_or-take_small (total (push_sizes f)) (drop (sizes_end f) f) (get_or-drop_small (sizes_end f) f b) k

pub good : (f : List ℕ) → Lawful f → ((k : ℕ) → byte_at f k < 256) → Good f
good f h b =
    let r = lawful_ranges f h in
    let l = lawful_laid f h in
    record {
      bytes = b;
      lawful = h;
      ranges = r;
      laid = l;
      fit = record {
        some_slot = r.some_slot;
        slots = r.slots;
        modulus_low = r.modulus_low;
        modulus_high = r.modulus_high;
        few = λ c. omega (arith, lengths b l c, b (6 + seat (site_of f) c));
        small = sizes_small b l;
        bytes = bytes_small b l;
      };
    }

module _ {f : List ℕ} (g : Good f) where
  pub sizes_length : (c : Core) → length (sizes_of (site_of f) c) ≡ byte_at f (6 + seat (site_of f) c)
  sizes_length = lengths g.bytes g.laid

  pub size-at : (c : Core) (b : ℕ) → size_at f (whom (site_of f) c) b ≡ get_or (sizes_of (site_of f) c) b 0
  unfolding size_at
  size-at core0 b = refl
  size-at core1 b = refl

-- The batches left, where there is one.
pub batches_cons : (l : List ℕ) (b : ℕ) → b < length l → drop b l ≡ get_or l b 0 ∷ drop (b + 1) l
batches_cons l b h = rw (add-one b) (drop-cons l b 0 h)

-- The producer's next byte to push.
pub feed_at : (f : List ℕ) (a b : ℕ) → a + b < total (push_sizes f) → get_or (drop (a + b) (push_bytes f)) 0 0 ≡ byte_for f Producer a b
unfolding push_bytes byte_for
feed_at f a b h =
    let n : ℕ = total (push_sizes f) in
    let e : a + b + 0 ≡ a + b = omega arith in
    get_or-drop (a + b) (take n (drop (sizes_end f) f)) 0 0
    ∙ rw e (get_or-take n (drop (sizes_end f) f) (a + b) 0 h ∙ get_or-drop (sizes_end f) f (a + b) 0)

-- Phases

abbrev pub phase_of : (size : ℕ) → Phase → ℕ
phase_of n start = 0
phase_of n reload = 1
phase_of n (moving i) = cond (ltb i n) 2 3

abbrev pub progress : Phase → ℕ
progress start = 0
progress reload = 0
progress (moving i) = i

pub phase_after_load : (short : Bool) (n : ℕ) → phase_after short 0 n ≡ phase_of n (cond short reload (moving 0))
unfolding phase_after
phase_after_load true n = refl
phase_after_load false n = refl

pub phase_after_move : (i n : ℕ) → phase_after false i n ≡ phase_of n (moving i)
unfolding phase_after
phase_after_move i n = refl

-- What a foreign load teaches

syncs_is : (u : Site) (c : Core) → syncs_of (orders_of (part u).bits) (whom u c) ≡ syncs (shape u).orders c (index u.ring (other c))
syncs_is u c = go (producer u) c (part u).bits
  where
    go : (p c : Core) (n : ℕ) → syncs_of (orders_of n) (whom_of p c)
        ≡ (same_core (other c) (other c) && (cond (same_core p c) (bit n 0) (bit n 2) && cond (same_core p (other c)) (bit n 1) (bit n 3)))
    go core0 core0 n = let e : n / 1 ≡ n = omega arith in rw e refl
    go core0 core1 n = and_comm (bit n 1) (bit n 2)
    go core1 core0 n = and_comm (bit n 1) (bit n 2)
    go core1 core1 n = let e : n / 1 ≡ n = omega arith in rw e refl

learnt_go : (b : Bool) (a s : ℕ) → cond b (max a s) a ≡ max a (cond b s 0)
learnt_go false a s = omega arith
learnt_go true a s = refl

pub learnt_is : (u : Site) (t : Trace) (c : Core) (s : ℕ)
    → learnt_of (syncs_of (orders_of (part u).bits) (whom u c)) (know (shape u).orders t c) s ≡ know (shape u).orders (load c (index u.ring (other c)) s ∷ t) c
unfolding learnt_of
learnt_is u t c s = rw (syncs_is u c, same_self c) (learnt_go (syncs (shape u).orders c (index u.ring (other c))) (know (shape u).orders t c) s)

-- The machine of some rings at one of them, ring r, over entries that name it: step by step it does what the machine of that ring alone does, with
-- its cores in the seats of ring r.
use mathlib.Core.Path.{◌≡◌, refl, sym, ap, ◌∙◌}
use mathlib.Core.Bool.{Bool, true, false, cond}
use mathlib.Core.Option.{Option, none, some}
use mathlib.Core.List.{List, [], ◌∷◌, ◌++◌}
use Prim.Native.Nat.{ℕ, zero, suc, ◌+◌, ◌%◌}
use lib.Dec.{ltb}
use lib.ListN.{get_or, get_elem?, set, drop}
use Rattle.order.specs.Trace.{Core, other, same_core, Ring, index, slot, load, store, Trace, latest, value_of, stores}
use Rattle.model.specs.File.{Part}
use Rattle.model.specs.Queue.{Named, Shape, Phase, start, reload, moving, Side, Queue, with_side, pushes, is_short}
use Rattle.model.specs.Plan.{Plan, refuse, perform, unless_hidden, unless_race, ageless, turned, own_load, pass_over, fail_batch, keep_batch, foreign_load, foreign_load_of, moved_on, data_store, data_load, slot_of, data_access, index_store, in_batch, of_batches, plan}
use Rattle.model.specs.Marks.{own_loaded, foreign_loaded, batch_failed, data_stored, data_loaded, index_stored}
use Rattle.model.specs.Run.{first_ring, machine_of}
use Rattle.promises.proofs.Seat.{seat, Here, seat_other, seat_same, seat_twice, seat_pushes, place, moved, moved_all, moved_value, stores_moved, latest_moved, Agree}

-- Queues and plans, moved.
module _ (r : Ring) where
  abbrev pub seated : Queue → Queue
  seated q = record { side = λ d. q.side (seat r d); slots = q.slots; feed = q.feed; out = q.out }

  pub seated_side : (q : Queue) (c : Core) → (seated q).side (seat r c) ≡ q.side c
  seated_side q c = ap q.side (seat_twice r c)

  seat_flip : (c d : Core) → same_core (seat r c) d ≡ same_core c (seat r d)
  seat_flip c d = ap (same_core (seat r c)) (sym (seat_twice r d)) ∙ seat_same r c (seat r d)

  with_seated : (q : Queue) (c : Core) (me : Side) → with_side (seated q).side (seat r c) me ≡ (λ d. with_side q.side c me (seat r d))
  with_seated q c me = λ i d. cond (seat_flip c d i) me (q.side (seat r d))

  turned_at : (q : Queue) (c : Core) (me me₁ : Side) (feed feed₁ : List ℕ) → me ≡ me₁ → feed ≡ feed₁
      → turned (seated q) (seat r c) me feed ≡ seated (turned q c me₁ feed₁)
  turned_at q c me me₁ feed feed₁ e h =
      let sides : with_side (seated q).side (seat r c) me ≡ (λ d. with_side q.side c me₁ (seat r d)) =
      ap (with_side (seated q).side (seat r c)) e ∙ with_seated q c me₁ in
      λ i. record { side = sides i; slots = q.slots; feed = h i; out = q.out }

  abbrev pub plan_at : Plan → Plan
  plan_at (refuse n) = refuse n
  plan_at (perform n a z) = perform n (moved r a) (seated z)
  plan_at (unless_hidden x s n z) = unless_hidden (place r x) s n (seated z)
  plan_at (unless_race x a n z) = unless_race (place r x) (moved r a) n (seated z)

  ageless_at : (age : ℕ) (p q : Plan) → p ≡ plan_at q → ageless age p ≡ plan_at (ageless age q)
  ageless_at zero p q e = e
  ageless_at (suc age) p q e = refl

  cond_at : (b b₁ : Bool) (p q p₁ q₁ : Plan) → b ≡ b₁ → p ≡ plan_at p₁ → q ≡ plan_at q₁ → cond b p q ≡ plan_at (cond b₁ p₁ q₁)
  cond_at b true p q p₁ q₁ e h k = rw e h
  cond_at b false p q p₁ q₁ e h k = rw e k

-- Ring r of the rings p, and the same ring alone.
module _ (p : Ring → Part) (names names₁ : ℕ → Named) (r : Ring) where
  abbrev g : Shape
  g = machine_of p names

  abbrev g₁ : Shape
  g₁ = machine_of (λ q. p r) names₁

  pub agree : Agree g.orders g₁.orders r
  agree = record { acquire = λ c. rw (seat_pushes r c); release = λ c. rw (seat_pushes r c) }

  short_at : (c : Core) (n own cached : ℕ) → is_short g r (seat r c) n own cached ≡ is_short g₁ first_ring c n own cached
  short_at c n own cached = rw (seat_pushes r c)

  module _ (c : Core) (q : Queue) (t : Trace) (here : Here t) where
    -- The core's side, as it was.
    me_is : (seated r q).side (seat r c) ≡ q.side c
    me_is = seated_side r q c

    own_at : (n : ℕ) (rest : List ℕ) → own_load g r (seat r c) (seated r q) (moved_all r t) n rest ≡ plan_at r (own_load g₁ first_ring c q t n rest)
    own_at n rest =
        let from : latest (moved_all r t) (index r (seat r c)) ≡ latest t (index first_ring c) = latest_moved r (index first_ring c) refl t here in
        let value : value_of (moved_all r t) (latest (moved_all r t) (index r (seat r c))) ≡ value_of t (latest t (index first_ring c)) =
        ap (value_of (moved_all r t)) from ∙ moved_value r t (latest t (index first_ring c)) in
        let short : is_short g r (seat r c) n (value_of (moved_all r t) (latest (moved_all r t) (index r (seat r c)))) ((seated r q).side (seat r c)).cached
        ≡ is_short g₁ first_ring c n (value_of t (latest t (index first_ring c))) (q.side c).cached =
        (λ i. is_short g r (seat r c) n (value i) (me_is i).cached) ∙ short_at c n (value_of t (latest t (index first_ring c))) (q.side c).cached in
        let side : ◌≡◌ {A = Side} _ _ = λ i. record {
          batches = n ∷ rest;
          phase = cond (short i) reload (moving 0);
          own = value i;
          cached = (me_is i).cached;
          moved = [];
          completed = (me_is i).completed;
        } in
        let after = turned_at r q c _ _ q.feed q.feed side refl in
        λ i. perform own_loaded (load (seat r c) (index r (seat r c)) (from i)) (after i)

    -- The other core's index.
    theirs : index r (other (seat r c)) ≡ index r (seat r (other c))
    theirs = ap (index r) (sym (seat_other r c))

    fail_at : (n : ℕ) (rest : List ℕ) (s v : ℕ) → fail_batch r (seat r c) (seated r q) n rest s v ≡ plan_at r (fail_batch first_ring c q n rest s v)
    fail_at n rest s v =
        let side : ◌≡◌ {A = Side} _ _ = λ i. record { batches = rest; phase = start; own = (me_is i).own; cached = v; moved = []; completed = (me_is i).completed } in
        let after = turned_at r q c _ _ _ _ side (ap (λ b. pass_over b n q.feed) (seat_pushes r c)) in
        λ i. unless_hidden (theirs i) s batch_failed (after i)

    keep_at : (n : ℕ) (rest : List ℕ) (s v : ℕ) → keep_batch r (seat r c) (seated r q) n rest s v ≡ plan_at r (keep_batch first_ring c q n rest s v)
    keep_at n rest s v =
        let side : ◌≡◌ {A = Side} _ _ = λ i. record { batches = n ∷ rest; phase = moving 0; own = (me_is i).own; cached = v; moved = []; completed = (me_is i).completed } in
        let after = turned_at r q c _ _ q.feed q.feed side refl in
        λ i. unless_hidden (theirs i) s foreign_loaded (after i)

    foreign_at : (n : ℕ) (rest : List ℕ) (s : ℕ)
        → foreign_load g r (seat r c) (seated r q) n rest s (value_of (moved_all r t) s) ≡ plan_at r (foreign_load g₁ first_ring c q n rest s (value_of t s))
    foreign_at n rest s =
        let v : ℕ = value_of t s in
        ap (foreign_load g r (seat r c) (seated r q) n rest s) (moved_value r t s)
        ∙ cond_at r (is_short g r (seat r c) n ((seated r q).side (seat r c)).own v) (is_short g₁ first_ring c n (q.side c).own v) _ _
        (fail_batch first_ring c q n rest s v) (keep_batch first_ring c q n rest s v)
        (ap (λ (me : Side). is_short g r (seat r c) n me.own v) me_is ∙ short_at c n (q.side c).own v) (fail_at n rest s v) (keep_at n rest s v)

    foreign_of_at : (n : ℕ) (rest : List ℕ) (o : Option ℕ)
        → foreign_load_of g r (seat r c) (seated r q) (moved_all r t) n rest o ≡ plan_at r (foreign_load_of g₁ first_ring c q t n rest o)
    foreign_of_at n rest none = refl
    foreign_of_at n rest (some s) = foreign_at n rest s

    -- The sides after a byte moved.
    moved_on_at : (n : ℕ) (rest : List ℕ) (i byte : ℕ) → moved_on (seated r q) (seat r c) n rest i byte ≡ (λ d. moved_on q c n rest i byte (seat r d))
    moved_on_at n rest j byte =
        let side : ◌≡◌ {A = Side} _ _ = λ i. record {
          batches = n ∷ rest;
          phase = moving (suc j);
          own = (me_is i).own;
          cached = (me_is i).cached;
          moved = (me_is i).moved ++ (byte ∷ []);
          completed = (me_is i).completed;
        } in
        ap (with_side (seated r q).side (seat r c)) side ∙ with_seated r q c _

    store-at : (n : ℕ) (rest : List ℕ) (i y : ℕ) → data_store r (seat r c) (seated r q) n rest i y ≡ plan_at r (data_store first_ring c q n rest i y)
    store-at n rest j y =
        let byte = get_or q.feed 0 0 in
        let sides = moved_on_at n rest j byte in
        λ i. unless_race (slot r y) (store (seat r c) (slot r y) byte) data_stored
        (record { side = sides i; slots = set q.slots y byte; feed = drop 1 q.feed; out = q.out })

    load_at : (n : ℕ) (rest : List ℕ) (i y : ℕ) → data_load r (seat r c) (seated r q) (moved_all r t) n rest i y ≡ plan_at r (data_load first_ring c q t n rest i y)
    load_at n rest j y =
        let byte = get_or q.slots y 0 in
        let sides = moved_on_at n rest j byte in
        let from = latest_moved r (slot first_ring y) refl t here in
        λ i. unless_race (slot r y) (load (seat r c) (slot r y) (from i)) data_loaded
        (record { side = sides i; slots = q.slots; feed = q.feed; out = q.out ++ (byte ∷ []) })

    access_at : (n : ℕ) (rest : List ℕ) (i : ℕ)
        → data_access g r (seat r c) (seated r q) (moved_all r t) n rest i ≡ plan_at r (data_access g₁ first_ring c q t n rest i)
    access_at n rest i =
        let y : ℕ = slot_of g₁ first_ring (q.side c).own i in
        ap (λ (me : Side). cond (pushes r (seat r c)) (data_store r (seat r c) (seated r q) n rest i (slot_of g r me.own i))
        (data_load r (seat r c) (seated r q) (moved_all r t) n rest i (slot_of g r me.own i))) me_is
        ∙ cond_at r (pushes r (seat r c)) (pushes first_ring c) _ _ (data_store first_ring c q n rest i y) (data_load first_ring c q t n rest i y)
        (seat_pushes r c) (store-at n rest i y) (load_at n rest i y)

    complete_at : (n : ℕ) (rest : List ℕ) → index_store g r (seat r c) (seated r q) n rest ≡ plan_at r (index_store g₁ first_ring c q n rest)
    complete_at n rest =
        let side : ◌≡◌ {A = Side} _ _ = λ i. record {
          batches = rest;
          phase = start;
          own = (me_is i).own;
          cached = (me_is i).cached;
          moved = [];
          completed = (me_is i).completed ++ (me_is i).moved;
        } in
        let after = turned_at r q c _ _ q.feed q.feed side refl in
        λ i. perform index_stored (store (seat r c) (index r (seat r c)) (((me_is i).own + n) % (p r).modulus)) (after i)

    in_batch_at : (age n : ℕ) (rest : List ℕ) (h : Phase)
        → in_batch g r (seat r c) (seated r q) (moved_all r t) age n rest h ≡ plan_at r (in_batch g₁ first_ring c q t age n rest h)
    in_batch_at age n rest start = ageless_at r age _ _ (own_at n rest)
    in_batch_at age n rest reload =
        ap (λ x. foreign_load_of g r (seat r c) (seated r q) (moved_all r t) n rest (get_elem? (stores (moved_all r t) x) age)) theirs
        ∙ ap (λ (l : List ℕ). foreign_load_of g r (seat r c) (seated r q) (moved_all r t) n rest (get_elem? l age)) (stores_moved r (index first_ring (other c)) refl t here)
        ∙ foreign_of_at n rest (get_elem? (stores t (index first_ring (other c))) age)
    in_batch_at age n rest (moving i) = ageless_at r age _ _ (cond_at r (ltb i n) (ltb i n) _ _ _ _ refl (access_at n rest i) (complete_at n rest))

    of_batches_at : (age : ℕ) (bs : List ℕ) → of_batches g r (seat r c) (seated r q) (moved_all r t) age bs ≡ plan_at r (of_batches g₁ first_ring c q t age bs)
    of_batches_at age [] = refl
    of_batches_at age (n ∷ rest) =
        ap (λ (me : Side). in_batch g r (seat r c) (seated r q) (moved_all r t) age n rest me.phase) me_is ∙ in_batch_at age n rest (q.side c).phase

    -- THE PLAN is the one ring's, moved.
    pub plan_is : (age : ℕ) → plan g r (seat r c) (seated r q) (moved_all r t) age ≡ plan_at r (plan g₁ first_ring c q t age)
    plan_is age =
        ap (λ (me : Side). of_batches g r (seat r c) (seated r q) (moved_all r t) age me.batches) me_is ∙ of_batches_at age (q.side c).batches

-- What the joins of the moves share: a move of the code's machine belongs together with the step of the definition's computed one.
use mathlib.Core.Path.{◌≡◌, refl, ap}
use mathlib.Core.Bool.{Bool, true, false, cond, ◌&&◌}
use mathlib.Core.List.{List, [], ◌∷◌, ◌++◌}
use Rattle.std.specs.Prelude.{Option, Some, None}
use Prim.Native.Nat.{ℕ, ◌+◌, ◌<◌}
use native.Mathlib.Omega.{arith}
use lib.Dec.{eqb}
use lib.ListN.{get_or, set, length}
use borrow.Author.Tests.{ltb-true}
use Rattle.order.specs.Trace.{Core, core0, core1, other, same_core, index, load, next}
use Rattle.order.specs.Order.{Orders}
use Rattle.order.specs.computed.Record.{learn, reads}
use Rattle.order.proofs.Trace.{and_false, same_self, place_self}
use Rattle.model.specs.Marks.{race_found}
use Rattle.model.specs.Queue.{Shape, pushes, shortfall_of, shortfall, lead, is_short}
use Rattle.model.specs.Plan as pl
use Rattle.model.specs.Run.{Result}
use Rattle.model.specs.Report.{marked, entry_performed}
use Rattle.model.specs.computed.Machine.{decided}
use Rattle.ring.specs.declared.state.Core as rc
use Rattle.ring.specs.declared.state.Ring.{Ring}
use Rattle.ring.specs.declared.who.Who.TheVariants.{Producer, Consumer}
use Rattle.ring.specs.computed.Who.{chosen}
use Rattle.ring.specs.computed.Marks.{last_mark, last_byte}
use Rattle.ring.specs.computed.State.{fresh_core}
use Rattle.ring.specs.computed.Moves as mv
use Rattle.ring.proofs.Site.{Site, part, shape, producer, consumer, whom_of, whom, seat, Local, onward, entered_at, step_at}
use Rattle.ring.proofs.Rep.{Rep, put_same, put_other, both}

-- The byte that a move wrote to out.
abbrev pub read_of : Option ℕ → List ℕ
read_of None = []
read_of (Some byte) = byte ∷ []

-- A move and a result belong together.
pub record Joined (u : Site) (s : Ring) (st : Local) (xs : List Result) (x : Result) : Type 0 where
  pub rep : Rep u s (onward st x) (xs ++ (x ∷ []))
  pub mark_is : last_mark s.last ≡ x.mark
  pub performs : entry_performed x ≡ true
  pub out_is : x.queue.out ≡ st.queue.out ++ read_of (last_byte s.last)
  pub race_is : s.race ≡ cond (marked race_found x) (Some (record { entry = next st.trace; partner = x.partner })) None
  pub of-ring : x.ring ≡ u.ring
  pub running : st.halted ≡ false

pub chosen_is : {A : Type 0} (u : Site) (c : Core) (a b : A) → chosen (whom u c) a b ≡ cond (pushes u.ring c) a b
chosen_is {A = A} u c a b = go (pushes u.ring c)
  where
    go : (x : Bool) → chosen (cond x Producer Consumer) a b ≡ cond x a b
    go true = refl
    go false = refl

pub chosen_other : {A : Type 0} (u : Site) (c : Core) (a b : A) → chosen (whom u c) b a ≡ cond (pushes u.ring (other c)) a b
chosen_other {A = A} u c a b = go (producer u) c
  where
    go : (p c : Core) → chosen (whom_of p c) b a ≡ cond (same_core p (other c)) a b
    go core0 core0 = refl
    go core0 core1 = refl
    go core1 core0 = refl
    go core1 core1 = refl

lead_is : (u : Site) (c : Core) (m : ℕ) → m ≡ (part u).size → mv.lead_of (whom u c) m ≡ lead (shape u) u.ring c
lead_is u c m e = go (pushes u.ring c)
  where
    go : (b : Bool) → chosen (cond b Producer Consumer) m 0 ≡ cond b (part u).size 0
    go true = e
    go false = refl

-- The bytes pushed so far are the first core's business, the bytes read the second's.
pub feed_keeps : (u : Site) (l : List rc.Core) → length l ≡ 2 → (c : Core) (d : rc.Core)
    → d.passed + d.moved ≡ (get_or l (seat u c) fresh_core).passed + (get_or l (seat u c) fresh_core).moved
    → (get_or (set l (seat u c) d) (seat u (producer u)) fresh_core).passed + (get_or (set l (seat u c) d) (seat u (producer u)) fresh_core).moved
    ≡ (get_or l (seat u (producer u)) fresh_core).passed + (get_or l (seat u (producer u)) fresh_core).moved
feed_keeps u l e c d h = both (λ (b : Core). (get_or (set l (seat u c) d) (seat u b) fresh_core).passed + (get_or (set l (seat u c) d) (seat u b) fresh_core).moved
    ≡ (get_or l (seat u b) fresh_core).passed + (get_or l (seat u b) fresh_core).moved) c (rw (put_same u l c d e) h) (rw (put_other u l c d)) (producer u)

pub out_keeps : (u : Site) (l : List rc.Core) → length l ≡ 2 → (c : Core) (d : rc.Core)
    → d.done + d.moved ≡ (get_or l (seat u c) fresh_core).done + (get_or l (seat u c) fresh_core).moved
    → (get_or (set l (seat u c) d) (seat u (consumer u)) fresh_core).done + (get_or (set l (seat u c) d) (seat u (consumer u)) fresh_core).moved
    ≡ (get_or l (seat u (consumer u)) fresh_core).done + (get_or l (seat u (consumer u)) fresh_core).moved
out_keeps u l e c d h = both (λ (b : Core). (get_or (set l (seat u c) d) (seat u b) fresh_core).done + (get_or (set l (seat u c) d) (seat u b) fresh_core).moved
    ≡ (get_or l (seat u b) fresh_core).done + (get_or l (seat u b) fresh_core).moved) c (rw (put_same u l c d e) h) (rw (put_other u l c d)) (consumer u)

-- The definition's step of a core that has a batch, in a machine that has not halted.
pub step_is : (u : Site) (st : Local) (c : Core) (age : ℕ) → st.halted ≡ false
    → step_at u c st age ≡ decided (shape u).orders u.ring c st.queue st.trace (pl.plan (shape u) u.ring c st.queue st.trace age)
step_is u st c age h = ap (entered_at u c st age) h

pub own_learns_nothing : (o : Orders) (r : ℕ) (c : Core) (s : ℕ) → learn o c (load c (index r c) s) ≡ 0
own_learns_nothing o r core0 s = refl
own_learns_nothing o r core1 s = refl

pub own_reads_nothing : (r : ℕ) (c : Core) (s : ℕ) → reads c (index r (other c)) (load c (index r c) s) ≡ 0
own_reads_nothing r core0 s = rw (and_false (eqb r r))
own_reads_nothing r core1 s = rw (and_false (eqb r r))

pub foreign_reads : (r : ℕ) (c : Core) (s : ℕ) → reads c (index r (other c)) (load c (index r (other c)) s) ≡ s
foreign_reads r c s = rw (same_self c, place_self (index r (other c)))

-- A load of an index accesses no slot.
pub no_slot : (e c : Core) (y : ℕ) → (same_core e c && false) ≡ false
no_slot e c y = and_false (same_core e c)

-- Room is short of a batch that has a byte.
pub short_pos : (g : Shape) (r : ℕ) (c : Core) (n own cached : ℕ) → is_short g r c n own cached ≡ true → 0 < n
short_pos g r c n own cached e = let l = ltb-true 0 (shortfall g r c n own cached) e in omega arith

short_eq : (n l l' M M' own own' k k' : ℕ) → l ≡ l' → M ≡ M' → own ≡ own' → k ≡ k' → shortfall_of l M n own k ≡ shortfall_of l' M' n own' k'
short_eq n l l' M M' own own' k k' a b c d = cc

-- The code's room question is the definition's.
pub short_same : {u : Site} {s : Ring} {st : Local} {xs : List Result} → Rep u s st xs → (c : Core) (n own own' k k' : ℕ) → own ≡ own' → k ≡ k'
    → shortfall_of (mv.lead_of (whom u c) s.size) s.modulus n own k ≡ shortfall (shape u) u.ring c n own' k'
short_same {u} {s} r c n own own' k k' e e' =
    short_eq n (mv.lead_of (whom u c) s.size) (lead (shape u) u.ring c) s.modulus (part u).modulus own own' k k' (lead_is u c s.size r.size_is) r.modulus_is e e'

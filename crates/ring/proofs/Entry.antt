-- One entry of a run file: whom it names, whether it is refused, and the move of the core that it names.
use mathlib.Core.Path.{◌≡◌, refl, ap, sym, ◌∙◌}
use mathlib.Core.Logic.{◌⊎◌, inl, inr}
use mathlib.Core.Bool.{true}
use mathlib.Core.List.{List}
use Prim.Native.Nat.{ℕ, zero, suc, ◌+◌, ◌<◌, ◌≤◌}
use native.Mathlib.Omega.{arith}
use lib.ListN.{get_or}
use borrow.Author.Tests.{lt-ltb, ne_eqb}
use Rattle.order.specs.Trace.{Core, core0, core1, next}
use Rattle.order.proofs.Trace.{clash}
use Rattle.model.specs.File.{byte_at, total}
use Rattle.model.specs.Marks.{no_such_core}
use Rattle.model.specs.Queue.{named, pushes}
use Rattle.model.specs.Run.{Result, refused, State, first_ring, names_one, shape_of}
use Rattle.model.specs.computed.Machine.{step}
use Rattle.ring.specs.declared.state.Ring.{Ring}
use Rattle.std.specs.Prelude.{is_some}
use Rattle.ring.specs.declared.who.Who.{Who}
use Rattle.ring.specs.computed.Who.{who_of, core_place, chosen}
use Rattle.ring.specs.computed.State.{core_at, Bounded}
use Rattle.ring.specs.computed.Reads.{size_at, byte_for}
use Rattle.ring.specs.computed.Refusal.{refusal_of}
use Rattle.ring.specs.computed.Moves as mv
use Rattle.ring.proofs.Site.{whom, seat, sizes_of, here, step_at, step_here}
use Rattle.ring.proofs.Parts.{site_of, Good, sizes_length, size-at, feed_at}
use Rattle.ring.proofs.Rep.{Rep}
use Rattle.ring.proofs.Join.{Joined}
use Rattle.ring.proofs.Verdict.{Goes, Way, core_way}
use Rattle.ring.proofs.Step as arm

-- What the code answers for an entry.
abbrev pub answer : List ℕ → Ring → (core age : ℕ) → ℕ
answer f s core age = refusal_of f core age s.race s.cores s.back s.front

-- The entry names core c, which goes.
pub record GoesOne (f : List ℕ) (s : Ring) (st : State) (core age : ℕ) : Type 0 where
  pub c : Core
  pub who_is : who_of core ≡ whom (site_of f) c
  pub names : names_one core ≡ named first_ring c
  pub goes : Goes (site_of f) s (here st first_ring) c age

abbrev pub WayOne : List ℕ → Ring → State → (core age n : ℕ) → Type 0
WayOne f s st core age n =
    ((step (shape_of f) st (record { core = core; age = age }) ≡ refused first_ring (st.queue first_ring) n) × (no_such_core ≤ n)) ⊎ (GoesOne f s st core age × (n ≡ 0))

way_one : (f : List ℕ) {s : Ring} {st : State} (core age n : ℕ) (c : Core) → who_of core ≡ whom (site_of f) c → names_one core ≡ named first_ring c
    → Way (site_of f) s (here st first_ring) c age n → WayOne f s st core age n
way_one f {s} {st} core age n c ew en (inl x) = inl (step_here (site_of f) st core age c en ∙ x.0, x.1)
way_one f {s} {st} core age n c ew en (inr x) = inr (record { c = c; who_is = ew; names = en; goes = x.0 }, x.1)

-- THE REFUSAL: a mark from 129 on, with which the definition refuses, or 0 and the entry goes.
pub verdict : {f : List ℕ} → Good f → {s : Ring} {st : State} {xs : List Result} → Rep (site_of f) s (here st first_ring) xs
    → st.halted ≡ is_some s.race → (core age : ℕ) → WayOne f s st core age (answer f s core age)
unfolding refusal_of
verdict {f} g {s} {st} r h zero age =
    way_one f 0 age _ core0 refl refl (core_way g.fit r core0 age (byte_at f 6) (sym (sizes_length g core0)) (is_some s.race) h)
verdict {f} g {s} {st} r h (suc zero) age =
    way_one f 1 age _ core1 refl refl (core_way g.fit r core1 age (byte_at f 7) (sym (sizes_length g core1)) (is_some s.race) h)
verdict {f} g {s} {st} r h (suc (suc n)) age =
    inl (rw (lt-ltb 1 (suc (suc n)) (omega arith), ne_eqb (suc (suc n)) 0 (λ z. omega arith), ne_eqb (suc (suc n)) 1 (λ z. omega arith)) (refl, omega arith))

-- The moves, as the loop makes them: w is the core that the entry names.
module _ {f : List ℕ} (g : Good f) {s : Ring} {st : State} {xs : List Result} (r : Rep (site_of f) s (here st first_ring) xs) (core age : ℕ)
    (v : GoesOne f s st core age) (w : Who) (ew : w ≡ who_of core) where
  who : w ≡ whom (site_of f) v.c
  who = ew ∙ v.who_is

  does : step (shape_of f) st (record { core = core; age = age }) ≡ step_at (site_of f) v.c (here st first_ring) age
  does = step_here (site_of f) st core age v.c v.names

  pub own_arm : (core_at s (core_place w)).phase ≡ 0
      → Joined (site_of f) (mv.own_load s w (size_at f w (core_at s (core_place w)).batch)) (here st first_ring) xs (step (shape_of f) st (record { core = core; age = age }))
  own_arm p = rw (who, does) (arm.own_arm g.fit r v.goes (rw who at p) (size_at f (whom (site_of f) v.c) (core_at s (seat (site_of f) v.c)).batch)
      (size-at g v.c (core_at s (seat (site_of f) v.c)).batch))

  pub foreign_arm : (core_at s (core_place w)).phase ≡ 1
      → Joined (site_of f) (mv.foreign_load s w age) (here st first_ring) xs (step (shape_of f) st (record { core = core; age = age }))
  foreign_arm p = rw (who, does) (arm.foreign_arm g.fit r v.goes (rw who at p))

  pub data_arm : (core_at s (core_place w)).phase ≡ 2
      → Joined (site_of f) (mv.data_access s w (byte_for f w (core_at s (core_place w)).passed (core_at s (core_place w)).moved) (next st.trace)) (here st first_ring) xs
      (step (shape_of f) st (record { core = core; age = age }))
  data_arm p = rw (who, does) (arm.data_arm g.fit r v.goes (rw who at p) _ (fed v.c (arm.byte_in g.fit r v.goes (rw who at p))))
    where
      fed : (c : Core) → (core_at s (seat (site_of f) c)).passed + (core_at s (seat (site_of f) c)).moved < total (sizes_of (site_of f) c) → pushes first_ring c ≡ true
          → byte_for f (whom (site_of f) c) (core_at s (seat (site_of f) c)).passed (core_at s (seat (site_of f) c)).moved ≡ get_or (st.queue first_ring).feed 0 0
      fed core0 l e = sym (ap (λ (l : List ℕ). get_or l 0 0) r.feed_is ∙ feed_at f (core_at s 0).passed (core_at s 0).moved l)
      fed core1 l e = clash (cc)

  pub index_arm : ¬ ((core_at s (core_place w)).phase ≡ 0) → ¬ ((core_at s (core_place w)).phase ≡ 1) → ¬ ((core_at s (core_place w)).phase ≡ 2)
      → (room : (chosen w s.back s.front).count < 256)
      → Joined (site_of f) (mv.index_store s w (next st.trace) room) (here st first_ring) xs (step (shape_of f) st (record { core = core; age = age }))
  index_arm a b c =
      let ph : (core_at s (core_place w)).phase ≡ (core_at s (seat (site_of f) v.c)).phase = ap (λ (j : Who). (core_at s (core_place j)).phase) who in
      rw (who, does) (arm.index_arm g.fit r v.goes (λ k. a (ph ∙ k)) (λ k. b (ph ∙ k)) (λ k. c (ph ∙ k)))

  -- What the moves ask.

  pub bounds : Bounded (core_at s (core_place w))
  bounds = rw who (arm.bounds g.fit r v.goes)

  pub age_lt : (core_at s (core_place w)).phase ≡ 1 → age < (chosen w s.front s.back).count
  age_lt p = rw who (arm.age_lt g.fit r v.goes (rw who at p))

  pub moved_lt : (core_at s (core_place w)).phase ≡ 2 → (core_at s (core_place w)).moved < 255
  moved_lt p = rw who (arm.moved_lt g.fit r v.goes (rw who at p))

  pub count_lt : (chosen w s.back s.front).count < 256
  count_lt = rw who (arm.count_lt g.fit r v.goes)

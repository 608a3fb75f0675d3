-- The loop's body follows the definition entry by entry.
use Rattle.std.proofs.Common.{arith, rules, refl, ◌∙◌}
use Rattle.model.proofs.Laid.{lawful_ranges}
use Rattle.ring.proofs.Rep.{size_pos, size_le, modulus_pos, modulus_le}
use Rattle.ring.proofs.Turn.{turning_none, never_zero, refused_turns, bounded, has_age, has_byte, has_place, Goes, Joins, own_joins, foreign_joins, data_joins, index_joins, place_here, place_lt, moved_turns, few_performed, few_entries, all_turned}
use Rattle.ring.proofs.run.run.Goals as goal
use Rattle.ring.proofs.run.run.Goals.{After-last_byte, in-0, in-1, in-2, in_default-phase}

pub overflow_sub-n : goal.overflow_sub-n
overflow_sub-n c = omega (arith, c.schedule_at-at.ensures, (lawful_ranges c.args.file.now c.requires.lawful).bytes_in)

pub loop-i-init : goal.loop-i-init
loop-i-init c = turning_none (λ k. omega (arith, c.type_inv.file k)) c.requires c.schedule_at-at.ensures refl c.fresh_ring-ring.ensures

pub loop-i-preserved-in-Err : goal.loop-i-preserved-in-Err
loop-i-preserved-in-Err c = refused_turns c.loop-i.invariant c.loop-i-test.true refl (search rules) (search (rules, never_zero))

pub foreign_load-ring-requires : goal.foreign_load-ring-requires
foreign_load-ring-requires c =
    let z = c.loop-i.invariant in
    record {
      age = has_age z c.loop-i-test.true (search rules) c.of_byte-who.ensures c.place.ensures.value c.in-1.is;
      core = bounded z c.loop-i-test.true (search rules) c.of_byte-who.ensures c.place.ensures.value;
    }

pub data_access-ring-requires : goal.data_access-ring-requires
data_access-ring-requires c =
    let z = c.loop-i.invariant in
    record {
      some_slot = size_pos z.fine.fit z.going.share.rep;
      slots = size_le z.fine.fit z.going.share.rep;
      moved = has_byte z c.loop-i-test.true (search rules) c.of_byte-who.ensures c.place.ensures.value c.in-2.is;
    }

pub index_store-ring-requires : goal.index_store-ring-requires
index_store-ring-requires c =
    let z = c.loop-i.invariant in
    record {
      some_index = modulus_pos z.fine.fit z.going.share.rep;
      indexes = modulus_le z.fine.fit z.going.share.rep;
      core = bounded z c.loop-i-test.true (search rules) c.of_byte-who.ensures c.place.ensures.value;
      place = has_place z c.loop-i-test.true (search rules) c.of_byte-who.ensures c.place.ensures.value;
    }

-- The move that was made joins the definition's step.
joined : (c : After-last_byte) → Goes c.loop-i.invariant c.loop-i-test.true → Joins c.loop-i.invariant c.loop-i-test.true c.match-phase.ring
joined c goes =
    let z = c.loop-i.invariant in
    let more = c.loop-i-test.true in
    let who = c.of_byte-who.ensures in
    let place = c.place.ensures.value in
    elim c.match-phase.branch [
      | in-0 w ↦ own_joins z more goes who place w.in-0.is (w.from.ensures ∙ w.size_of.ensures) (w.ring-is ∙ w.own_load-ring.ensures)
      | in-1 w ↦ foreign_joins z more goes who place w.in-1.is (w.ring-is ∙ w.foreign_load-ring.ensures)
      | in-2 w ↦ data_joins z more goes who place w.in-2.is w.byte_for.ensures (w.ring-is ∙ w.data_access-ring.ensures)
      | in_default-phase w ↦ index_joins z more goes who place (λ q. omega arith) (λ q. omega arith) (λ q. omega arith) (λ room. w.ring-is ∙ w.index_store-ring.ensures room)
    ]

pub keep_byte-k-requires : goal.keep_byte-k-requires
keep_byte-k-requires c =
    let z = c.loop-i.invariant in
    record {
      each = z.ready.each_le;
      low = place_lt z;
      room = place_here z c.loop-i-test.true (joined c (search rules)) c.last_byte.ensures;
    }

pub overflow_add-performed : goal.overflow_add-performed
overflow_add-performed c = omega (arith, few_performed c.loop-i.invariant, few_entries c.loop-i.invariant, c.loop-i-test.true)

pub loop-i-preserved : goal.loop-i-preserved
loop-i-preserved c =
    moved_turns c.loop-i.invariant c.loop-i-test.true (joined (goal.at.loop-i-preserved c).After-last_byte (search rules))
    c.last_mark.ensures c.last_byte.ensures c.keep_byte-k.ensures.next c.keep_byte-k.ensures.out

pub returns : goal.returns
returns c = all_turned c.loop-i.invariant c.loop-i-test.false _ refl

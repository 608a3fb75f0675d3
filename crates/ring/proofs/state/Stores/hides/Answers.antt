-- Where no store is later than the chosen one none hides it; else the walk over the later ones answers.
use Rattle.std.proofs.Common.{rules, arith, tests, ap, sym, ◌∙◌}
use Rattle.std.specs.Slice.Iter.{iter_rest}
use Rattle.std.proofs.lemmas.Iterator.Adapters.{YieldsList-from_rev_slice}
use Rattle.std.proofs.lemmas.Iterator.Search.{any_from_yields_List}
use lib.Dec.{leb}
use Rattle.ring.specs.computed.State.{later_known}
use Rattle.ring.proofs.Walk.{walk_none, walk_any}
use Rattle.ring.proofs.state.Stores.hides.Goals as goal

pub returns-then-n-place : goal.returns-then-n-place
returns-then-n-place c = sym (walk_none c.args.self.now.entries c.args.place c.args.known c.args.self.now.count (omega arith))

pub returns : goal.returns
returns c =
    let later = YieldsList-from_rev_slice _ (ap iter_rest c.rev.ensures.source ∙ c.iter.ensures.rest) in
    any_from_yields_List (λ entry. leb entry c.args.known) _ _ c.any.result c.any.ensures.ran later (λ x b q k. search (rules, tests))
    ∙ sym (walk_any c.args.self.now.entries c.args.place c.args.known c.from-n.result (omega arith))
    ∙ ap (later_known c.args.self.now.entries c.args.place c.args.known) c.from-n.ensures

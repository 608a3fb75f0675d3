-- Each turn puts one number more and what follows it behind what the piece holds.
use Rattle.std.proofs.Common.{◌≡◌, ◌+◌, ◌∷◌, [], ◌++◌, take, drop, slice_index_or, ap, sym, subst, ◌∙◌, arith}
use Rattle.std.specs.Fmt.{decimal}
use Rattle.std.specs.Str.{IsAscii}
use Rattle.std.proofs.lemmas.Fmt.{IsAscii-decimal}
use Rattle.std.proofs.lemmas.Str.{IsAscii-append, IsUtf8-from_ascii}
use Rattle.runlist.specs.Row.{follows, numbers_text}
use Rattle.runlist.proofs.Lines.{number_more, follows_plain}
use Rattle.runlist.proofs.line.fill.Goals as goal

pub loop-next-preserved : goal.loop-next-preserved
loop-next-preserved c =
    let z = c.loop-next.invariant in
    let row = c.args.row.now in
    let n = c.loop-next.next in
    let held = take c.loop-next.used c.loop-next.piece in
    let x = slice_index_or row n 0 in
    let rest = drop (n + 1) row in
    let put : take c.put-used.result c.put-used.new.piece ≡ (held ++ decimal x) ++ follows rest ∷ [] =
    ap (λ k. take k c.put-used.new.piece) c.put-used.ensures.place ∙ c.put-used.ensures.text
    ∙ ap (λ t. t ++ c.follower.result ∷ []) c.put_decimal-at.ensures.text ∙ ap (λ s. (held ++ decimal x) ++ s ∷ []) c.follower.ensures in
    let plain = IsAscii-append (held ++ decimal x) (follows rest ∷ []) (IsAscii-append held (decimal x) z.4 (IsAscii-decimal x (omega (arith, c.type_inv.row n)))) (follows_plain rest) in (
      omega (arith, z.0),
      λ e. absurd (omega (arith, e, z.0)),
      omega (arith, c.put-used.ensures.place, c.put_decimal-at.ensures.place, c.if-used.true),
      z.3 ∙ number_more row held n c.loop-next-test.true ∙ ap (λ t. t ++ numbers_text rest) (sym put),
      subst IsAscii (sym put) plain,
    )

pub returns-else-used-clause-plain : goal.returns-else-used-clause-plain
returns-else-used-clause-plain c = IsUtf8-from_ascii _ c.loop-next.invariant.4

pub returns-after-loop-next-clause-plain : goal.returns-after-loop-next-clause-plain
returns-after-loop-next-clause-plain c = IsUtf8-from_ascii _ c.loop-next.invariant.4

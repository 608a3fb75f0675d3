-- Each turn writes one piece more.
use Rattle.std.proofs.Common.{List, ℕ, ◌++◌, refl, ap, sym, ◌∙◌, append_assoc, drop, rules}
use Rattle.std.proofs.Output.{has_written_append}
use Rattle.runlist.specs.Row.{numbers_text}
use Rattle.runlist.proofs.line.LineDisplay.fmt.Goals as goal

pub loop-from-preserved : goal.loop-from-preserved
loop-from-preserved g c = λ plain.
    let so_far = c.loop-from.invariant plain in (
      so_far.0 ++ c.from_utf8_unchecked.result.now,
      has_written_append _ _ _ _ _ _ so_far.1 (c.in_ok-write_str.ensures.writes so_far.1.plain refl),
      so_far.2 ∙ ap (λ (t : List ℕ). so_far.0 ++ t) (c.fill-next.ensures.text ∙ ap (λ (t : List ℕ). t ++ numbers_text (drop c.fill-next.result.0 c.args.self.now.0.now)) (sym c.from_utf8_unchecked.ensures)) ∙ sym (append_assoc so_far.0 _ _)
          ∙ ap (λ (k : ℕ). (so_far.0 ++ c.from_utf8_unchecked.result.now) ++ numbers_text (drop k c.args.self.now.0.now)) (search rules),
    )

-- One digit, two or three.
use Rattle.std.proofs.Common.{◌+◌, ◌/◌, ◌%◌, ◌∷◌, [], ◌++◌, take, ap, sym, ◌∙◌, arith}
use Rattle.std.proofs.lemmas.Fmt.{decimal_digit}
use Rattle.runlist.proofs.Lines.{two_digits, three_digits, first_put, more_put}
use Rattle.runlist.proofs.line.put_decimal.Goals as goal

pub returns-then-x-lt10-clause-text : goal.returns-then-x-lt10-clause-text
returns-then-x-lt10-clause-text c =
    first_put _ _ _ _ _ c.put.ensures.place c.put.ensures.text ∙ ap (λ t. take c.args.at c.args.piece.now ++ t) (sym (decimal_digit c.args.x c.if-x-lt10.true))

pub returns-then-x-lt100-clause-text : goal.returns-then-x-lt100-clause-text
returns-then-x-lt100-clause-text c =
    let one = first_put _ _ _ _ _ c.put-at.ensures.place c.put-at.ensures.text in
    more_put _ _ _ _ _ _ _ _ one c.put-then-x-lt100.ensures.place c.put-then-x-lt100.ensures.text
    ∙ ap (λ t. take c.args.at c.args.piece.now ++ t) (sym (two_digits c.args.x (omega (arith, c.if-x-lt10.false)) c.if-x-lt100.true))

pub returns-clause-text : goal.returns-clause-text
returns-clause-text c =
    let x = c.args.x in
    let old = c.args.piece.now in
    let at = c.args.at in
    let one = first_put old c.put-at-2.new.piece at _ (48 + x / 100) c.put-at-2.ensures.place c.put-at-2.ensures.text in
    let two = more_put old c.put-at-2.new.piece at _ c.put-at-3.new.piece _ ((48 + x / 100) ∷ []) (48 + x / 10 % 10) one c.put-at-3.ensures.place c.put-at-3.ensures.text in
    more_put old c.put-at-3.new.piece at _ c.put-2.new.piece _ ((48 + x / 100) ∷ (48 + x / 10 % 10) ∷ []) (48 + x % 10) two c.put-2.ensures.place c.put-2.ensures.text
    ∙ ap (λ t. take at old ++ t) (sym (three_digits x (omega (arith, c.if-x-lt100.false)) (omega (arith, c.ranges.x.fits))))

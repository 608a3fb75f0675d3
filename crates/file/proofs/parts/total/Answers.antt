-- The sum is that of the numbers, each of which is below 256.
use Rattle.std.proofs.Common.{◌≡◌, rules, arith, ◌∙◌}
use Rattle.std.specs.List.{sum}
use Rattle.model.specs.File.{total}
use Rattle.file.proofs.Sums.{total_is, total_low}
use Rattle.file.proofs.parts.total.Goals as goal

pub returns : goal.returns
returns c =
    let sizes = c.args.sizes.now in
    let is : c.sum.result ≡ total sizes = (let e : c.sum.result ≡ sum sizes = search rules in e ∙ total_is sizes) in
    record { value = is; low = omega (arith, is, total_low sizes (λ k. omega (arith, c.type_inv.sizes k)) c.requires) }

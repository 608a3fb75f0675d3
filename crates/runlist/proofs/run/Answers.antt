-- The answer is the code over buffers of these lengths, which are never too short.
use Rattle.std.proofs.Common.{rules, ◌≡◌, ◌<◌, ℕ, sym, ◌∙◌}
use Rattle.model.specs.Codes.{code_of}
use Rattle.file.specs.Errors.{code_in}
use Rattle.model.specs.File.{byte_at}
use Rattle.runlist.proofs.Buffers.{never_short}
use Rattle.runlist.proofs.run.Goals as goal

pub returns-clause-long_enough : goal.returns-clause-long_enough
returns-clause-long_enough c =
    let file = c.args.file.now in
    let small : (k : ℕ) → byte_at file k < 256 = λ k. search rules in
    let never = never_short file small in
    let answer : code_in c.ferrulique_run.result ≡ code_of file 32764 65025 48 = c.ferrulique_run.ensures.code_is ∙ (λ i. code_of file (c.told-marks i) (c.told-out i) (c.told-report i)) in (
      λ e. never.0 (sym answer ∙ e),
      λ e. never.1 (sym answer ∙ e),
      λ e. never.2 (sym answer ∙ e),
    )

-- A call on a pair's file has one outcome, and some outcome.
use mathlib.Core.Path.{◌≡◌, refl, sym, ◌∙◌}
use mathlib.Core.List.{List, ◌++◌}
use Prim.Native.Nat.{ℕ}
use native.Mathlib.Omega.{arith}
use native.Mathlib.Decide.{dec_le}
use lib.ListN.{length, drop}
use Rattle.model.specs.Limits.{report_bytes}
use Rattle.model.specs.Run.{first_ring}
use Rattle.model.specs.Report.{bytes_of}
use Rattle.model.specs.Outcome.{marks_of}
use Rattle.model.specs.PairFile.{second_ring, pair_schedule_of, pair_shape, pair_fresh}
use Rattle.model.specs.PairOutcome.{Lent, pair_numbers_of, PairRan, pair_code, PairOutcome}
use Rattle.model.specs.computed.Machine.{results, ends}
use Rattle.model.proofs.Some.{some_run}
use Rattle.model.proofs.One.{run_one}

pair_ran_one : {f : List ℕ} {b b₁ b₂ : Lent} → PairRan f b b₁ → PairRan f b b₂ → b₁ ≡ b₂
pair_ran_one {f} {b} {b₁} {b₂} x y =
    let h = run_one x.run y.run in
    let m : b₁.marks ≡ b₂.marks = x.marks_are ∙ rw h.0 (sym y.marks_are) in
    let p : b₁.out₁ ≡ b₂.out₁ = x.out₁_is ∙ rw h.1 (sym y.out₁_is) in
    let q : b₁.out₂ ≡ b₂.out₂ = x.out₂_is ∙ rw h.1 (sym y.out₂_is) in
    let u : b₁.report₁ ≡ b₂.report₁ = x.report₁_is ∙ rw (h.0, h.1) (sym y.report₁_is) in
    let v : b₁.report₂ ≡ b₂.report₂ = x.report₂_is ∙ rw (h.0, h.1) (sym y.report₂_is) in
    λ i. record { marks = m i; out₁ = p i; report₁ = u i; out₂ = q i; report₂ = v i }

-- ONE RESULT: the code, and every byte of the five buffers.
pub pair_one_result : {f : List ℕ} {b b₁ b₂ : Lent} {r₁ r₂ : ℕ} → PairOutcome f b r₁ b₁ → PairOutcome f b r₂ b₂ → (r₁ ≡ r₂) × (b₁ ≡ b₂)
pair_one_result {r₁ = r₁} {r₂ = r₂} x y =
    let same : r₁ ≡ r₂ = x.code_is ∙ sym y.code_is in
    elim (dec_le r₁ 0) [
      | yes z ↦ (same, pair_ran_one (x.lawful (omega arith)) (y.lawful (omega arith)))
      | no z ↦ (same, x.stays (λ e. omega arith) ∙ sym (y.stays (λ e. omega arith)))
    ]

-- SOME RESULT: every call has an outcome.
pub pair_some_result : (f : List ℕ) (b : Lent) → (r : ℕ) × (b' : Lent) × PairOutcome f b r b'
pair_some_result f b =
    let code = pair_code f b in
    let xs = results (pair_shape f) (pair_fresh f) (pair_schedule_of f) in
    let z = ends (pair_shape f) (pair_fresh f) (pair_schedule_of f) in
    let b' : Lent = record {
      marks = marks_of xs ++ drop (length xs) b.marks;
      out₁ = (z.queue first_ring).out ++ drop (length (z.queue first_ring).out) b.out₁;
      report₁ = bytes_of (pair_numbers_of f first_ring xs z) ++ drop report_bytes b.report₁;
      out₂ = (z.queue second_ring).out ++ drop (length (z.queue second_ring).out) b.out₂;
      report₂ = bytes_of (pair_numbers_of f second_ring xs z) ++ drop report_bytes b.report₂;
    } in
    elim (dec_le code 0) [
      | yes h ↦ (
        code,
        b',
        record {
          code_is = refl;
          lawful = λ e. record {
            results = xs;
            end = z;
            run = some_run (pair_shape f) (pair_fresh f) (pair_schedule_of f) tt;
            marks_are = refl;
            out₁_is = refl;
            report₁_is = refl;
            out₂_is = refl;
            report₂_is = refl;
          };
          stays = λ n. absurd (n (omega arith));
        },
      )
      | no h ↦ (code, b, record { code_is = refl; lawful = λ e. absurd (omega arith); stays = λ n. refl })
    ]

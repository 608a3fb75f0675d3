-- The race question has one answer, and it has one: any two answers for a file are equal, and so are the numbers that a C host is handed.
use mathlib.Core.Path.{◌≡◌, refl, sym, ◌∙◌}
use mathlib.Core.List.{List}
use Prim.Native.Nat.{ℕ}
use native.Mathlib.Omega.{arith}
use native.Mathlib.Decide.{dec_le}
use lib.ListN.{get_or}
use Rattle.model.specs.File.{schedule_of}
use Rattle.model.specs.Codes.{file_code}
use Rattle.model.specs.Run.{shape_of, fresh}
use Rattle.model.specs.Report.{numbers_of}
use Rattle.model.specs.RaceAnswer.{race_place, partner_place, RaceTold, RaceAnswer, RaceOutcome}
use Rattle.model.specs.computed.Machine.{results, ends}
use Rattle.model.proofs.One.{run_one}
use Rattle.model.proofs.Some.{some_run}

told_one : {f : List ℕ} {e₁ p₁ e₂ p₂ : ℕ} → RaceTold f e₁ p₁ → RaceTold f e₂ p₂ → (e₁ ≡ e₂) × (p₁ ≡ p₂)
told_one a b = let h = run_one a.run b.run in
    (a.entry_is ∙ rw (h.0, h.1) (sym b.entry_is), a.partner_is ∙ rw (h.0, h.1) (sym b.partner_is))

-- ONE ANSWER.
pub race_one : {f : List ℕ} {c₁ e₁ p₁ c₂ e₂ p₂ : ℕ} → RaceAnswer f c₁ e₁ p₁ → RaceAnswer f c₂ e₂ p₂ → (c₁ ≡ c₂) × (e₁ ≡ e₂) × (p₁ ≡ p₂)
race_one {c₁ = c₁} {c₂ = c₂} a b =
    let same : c₁ ≡ c₂ = a.code_is ∙ sym b.code_is in
    elim (dec_le c₁ 0) [
      | yes z ↦ let h = told_one (a.lawful (omega arith)) (b.lawful (omega arith)) in (same, h.0, h.1)
      | no z ↦ (
        same,
        a.no_entry (λ e. omega arith) ∙ sym (b.no_entry (λ e. omega arith)),
        a.no_partner (λ e. omega arith) ∙ sym (b.no_partner (λ e. omega arith)),
      )
    ]

pub race_outcome_one : {f : List ℕ} {r₁ r₂ : ℕ} → RaceOutcome f r₁ → RaceOutcome f r₂ → r₁ ≡ r₂
race_outcome_one a b = let h = race_one a.answer b.answer in a.packed_is ∙ rw (h.0, h.1, h.2) (sym b.packed_is)

-- SOME ANSWER, for every list of bytes.
pub race_some : (f : List ℕ) → (c e p : ℕ) × RaceAnswer f c e p
race_some f = elim (dec_le (file_code f) 0) [
  | yes z ↦
      let xs = results (shape_of f) (fresh f) (schedule_of f) in
      let s = ends (shape_of f) (fresh f) (schedule_of f) in (
        file_code f,
        get_or (numbers_of f xs s) race_place 0,
        get_or (numbers_of f xs s) partner_place 0,
        record {
          code_is = refl;
          lawful = λ _. record { results = xs; end = s; run = some_run (shape_of f) (fresh f) (schedule_of f) tt; entry_is = refl; partner_is = refl };
          no_entry = λ k. absurd (k (omega arith));
          no_partner = λ k. absurd (k (omega arith));
        },
      )
  | no z ↦ (file_code f, 0, 0, record { code_is = refl; lawful = λ k. absurd (z (omega arith)); no_entry = λ _. refl; no_partner = λ _. refl })
]

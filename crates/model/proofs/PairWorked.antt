-- The runs of a pair: computed once for the whole table, and so of every outcome that the definition allows.
use mathlib.Core.Path.{◌≡◌, refl, sym, ap, ◌∙◌}
use mathlib.Core.List.{List, [], ◌∷◌, map}
use Prim.Native.Nat.{ℕ}
use native.Mathlib.Omega.{arith}
use lib.ListN.{length, length-map}
use Rattle.model.specs.File.{total}
use Rattle.model.specs.Codes.{first_of}
use Rattle.model.specs.Run.{Result, State, first_ring}
use Rattle.model.specs.Report.{report_of}
use Rattle.model.specs.Outcome.{marks_of}
use Rattle.model.specs.PairFile.{second_ring, push_sizes_of, pop_sizes_of, push_bytes_of, pair_schedule_at, pair_schedule_of, pair_shape, pair_fresh}
use Rattle.model.specs.PairCodes.{pair_file_table, LawfulPair}
use Rattle.model.specs.PairOutcome.{pair_numbers_of}
use Rattle.model.specs.PairWorked.{PairWorked, pairs_worked, written, PairComes, AllPairsCome}
use Rattle.model.specs.computed.Machine.{results, ends}
use Rattle.model.proofs.PairRanges.{PairRoom, lawful_pair_code}
use Rattle.model.proofs.Some.{some_run}
use Rattle.model.proofs.One.{run_one}
use Rattle.model.proofs.Worked.{run_length}

abbrev end : List ℕ → State
end f = ends (pair_shape f) (pair_fresh f) (pair_schedule_of f)

abbrev run : List ℕ → List Result
run f = results (pair_shape f) (pair_fresh f) (pair_schedule_of f)

-- What the computed machine gives for a row, in the row's own terms.
record Got : Type 0 where
  code : ℕ
  marks : List ℕ
  out₁ : List ℕ
  numbers₁ : List ℕ
  out₂ : List ℕ
  numbers₂ : List ℕ

got : PairWorked → Got
got w = record {
  code = first_of (pair_file_table w.file);
  marks = marks_of (run w.file);
  out₁ = ((end w.file).queue first_ring).out;
  numbers₁ = pair_numbers_of w.file first_ring (run w.file) (end w.file);
  out₂ = ((end w.file).queue second_ring).out;
  numbers₂ = pair_numbers_of w.file second_ring (run w.file) (end w.file);
}

want : PairWorked → Got
want w = record { code = 0; marks = w.marks; out₁ = w.out₁; numbers₁ = w.numbers₁; out₂ = w.out₂; numbers₂ = w.numbers₂ }

computed : map got pairs_worked ≡ map want pairs_worked
unfolding got want total push_sizes_of pop_sizes_of push_bytes_of pair_schedule_at pair_schedule_of pair_file_table report_of
computed = refl

come : (w : PairWorked) → got w ≡ want w → PairComes w
unfolding got want
come w e b r b' fm fo₁ fr₁ fo₂ fr₂ o =
    let f = w.file in
    let law : LawfulPair f = ap (λ (g : Got). g.code) e in
    let em : marks_of (run f) ≡ w.marks = ap (λ (g : Got). g.marks) e in
    let eo₁ : ((end f).queue first_ring).out ≡ w.out₁ = ap (λ (g : Got). g.out₁) e in
    let en₁ : pair_numbers_of f first_ring (run f) (end f) ≡ w.numbers₁ = ap (λ (g : Got). g.numbers₁) e in
    let eo₂ : ((end f).queue second_ring).out ≡ w.out₂ = ap (λ (g : Got). g.out₂) e in
    let en₂ : pair_numbers_of f second_ring (run f) (end f) ≡ w.numbers₂ = ap (λ (g : Got). g.numbers₂) e in
    let ran_so = some_run (pair_shape f) (pair_fresh f) (pair_schedule_of f) tt in
    let el : length (run f) ≡ length w.marks = sym (length-map (run f) (λ (x : Result). x.mark)) ∙ ap length em in
    let es : length (pair_schedule_of f) ≡ length w.marks = sym (run_length ran_so) ∙ el in
    let room : PairRoom f (length b.marks) (length b.out₁) (length b.report₁) (length b.out₂) (length b.report₂) =
    record { marks_fit = omega arith; out₁_fits = fo₁; report₁_fits = fr₁; out₂_fits = fo₂; report₂_fits = fr₂ } in
    let code0 : r ≡ 0 = o.code_is ∙ lawful_pair_code f _ _ _ _ _ law room in
    let ran = o.lawful code0 in
    let k = run_one ran.run ran_so in
    let m : b'.marks ≡ (written w b).marks = ran.marks_are ∙ rw (k.0, el, em) refl in
    let p : b'.out₁ ≡ (written w b).out₁ = ran.out₁_is ∙ rw (k.1, eo₁) refl in
    let u : b'.report₁ ≡ (written w b).report₁ = ran.report₁_is ∙ rw (k.0, k.1, en₁) refl in
    let q : b'.out₂ ≡ (written w b).out₂ = ran.out₂_is ∙ rw (k.1, eo₂) refl in
    let v : b'.report₂ ≡ (written w b).report₂ = ran.report₂_is ∙ rw (k.0, k.1, en₂) refl in
    (code0, λ i. record { marks = m i; out₁ = p i; report₁ = u i; out₂ = q i; report₂ = v i })

all_come : (ws : List PairWorked) → map got ws ≡ map want ws → AllPairsCome ws
all_come [] e = tt
all_come (w ∷ ws) e = (come w (cc), all_come ws (cc))

-- THE TABLE: every run of the pair comes out as worked by hand.
pub pair_runs : AllPairsCome pairs_worked
pair_runs = all_come pairs_worked computed

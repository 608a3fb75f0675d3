-- The run over the first i entries of a schedule: one entry more, and the marks in the lent buffer.
use mathlib.Core.Path.{◌≡◌, refl, ap, sym, ◌∙◌}
use mathlib.Core.List.{List, [], ◌∷◌, ◌++◌}
use Prim.Native.Nat.{ℕ, zero, suc, ◌+◌, ◌<◌, ◌≤◌}
use native.Mathlib.Omega.{arith}
use native.Mathlib.Numerals.{add-one}
use lib.ListN.{get_or, set, length, take, drop, length-map, length-set}
use lib.Seq.{length-take-le}
use Rattle.model.specs.File.{Entry}
use Rattle.model.specs.Queue.{Shape}
use Rattle.model.specs.Run.{Result, State, after}
use Rattle.model.specs.Outcome.{marks_of}
use Rattle.model.specs.computed.Machine.{step, results, ends}
use Rattle.ring.proofs.Buffers.{put_next}

pub no_entry : Entry
no_entry = record { core = 0; age = 0 }

results_more : (g : Shape) (s : State) (es : List Entry) (i : ℕ) (d : Entry) → i < length es
    → results g s (take (suc i) es) ≡ results g s (take i es) ++ (step g (ends g s (take i es)) (get_or es i d) ∷ [])
results_more g s [] i d h = absurd (omega arith)
results_more g s (e ∷ es) zero d h = refl
results_more g s (e ∷ es) (suc i) d h = ap (λ (l : List Result). step g s e ∷ l) (results_more g (after s (step g s e)) es i d (omega arith))

ends_more : (g : Shape) (s : State) (es : List Entry) (i : ℕ) (d : Entry) → i < length es
    → ends g s (take (suc i) es) ≡ after (ends g s (take i es)) (step g (ends g s (take i es)) (get_or es i d))
ends_more g s [] i d h = absurd (omega arith)
ends_more g s (e ∷ es) zero d h = refl
ends_more g s (e ∷ es) (suc i) d h = ends_more g (after s (step g s e)) es i d (omega arith)

results_length : (g : Shape) (s : State) (es : List Entry) → length (results g s es) ≡ length es
results_length g s [] = refl
results_length g s (e ∷ es) = ap suc (results_length g (after s (step g s e)) es)

marks_more : (xs : List Result) (x : Result) → marks_of (xs ++ (x ∷ [])) ≡ marks_of xs ++ (x.mark ∷ [])
marks_more [] x = refl
marks_more (y ∷ xs) x = ap (λ (l : List ℕ). y.mark ∷ l) (marks_more xs x)

-- After i entries: as many actions in the trace, and the marks, where each has its own place.
pub record Marked (own : Type 0) (g : Shape) (s : State) (es : List Entry) (marks₀ marks : List ℕ) (i : ℕ) : Type 0 where
  pub inside : i ≤ length es
  pub entries_are : length (ends g s (take i es)).trace ≡ length s.trace + i
  pub marks_same : length marks ≡ length marks₀
  pub marks_are : own → marks ≡ marks_of (results g s (take i es)) ++ drop i marks₀

module _ (g : Shape) (s : State) (es : List Entry) where
  pub marked_none : (own : Type 0) (marks : List ℕ) → Marked own g s es marks marks 0
  marked_none own marks = record { inside = omega arith; entries_are = omega arith; marks_same = refl; marks_are = λ _. refl }

  pub tried : (i : ℕ) → i ≤ length es → length (results g s (take i es)) ≡ i
  tried i h = results_length g s (take i es) ∙ length-take-le i es h

  -- One entry more, which comes to x.
  module _ (i : ℕ) (more : i < length es) (x : Result) (is : step g (ends g s (take i es)) (get_or es i no_entry) ≡ x) where
    pub next_results : results g s (take (i + 1) es) ≡ results g s (take i es) ++ (x ∷ [])
    next_results = rw (add-one i) (results_more g s es i no_entry more ∙ ap (λ (y : Result). results g s (take i es) ++ (y ∷ [])) is)

    pub next_end : ends g s (take (i + 1) es) ≡ after (ends g s (take i es)) x
    next_end = rw (add-one i) (ends_more g s es i no_entry more ∙ ap (after (ends g s (take i es))) is)

    -- Its mark goes to place p.
    pub marked_next : {own : Type 0} {marks₀ marks : List ℕ} (p : ℕ) → (own → p ≡ i) → (own → length es ≤ length marks₀)
        → Marked own g s es marks₀ marks i → Marked own g s es marks₀ (set marks p x.mark) (i + 1)
    marked_next {own} {marks₀} {marks} p same fit z =
        let xs : List Result = results g s (take i es) in
        let long : length (marks_of xs) ≡ i = length-map xs (λ (y : Result). y.mark) ∙ tried i z.inside in
        record {
          inside = omega arith;
          entries_are = rw next_end (omega (arith, z.entries_are));
          marks_same = length-set marks p x.mark ∙ z.marks_same;
          marks_are = λ o. ap (λ (l : List ℕ). set l p x.mark) (z.marks_are o) ∙ ap (λ (j : ℕ). set (marks_of xs ++ drop i marks₀) j x.mark) (same o)
              ∙ put_next (marks_of xs) marks₀ i x.mark long (omega (arith, fit o))
              ∙ ap (λ (l : List ℕ). l ++ drop (i + 1) marks₀) (sym (ap marks_of next_results ∙ marks_more xs x));
        }

-- Runs of a pair, worked by hand from the rules: each as the bytes of its file, its marks, and for each ring the bytes read and the twelve numbers.
use Rattle.std.specs.Prelude.{◌≡◌, List, [], ◌∷◌, ◌++◌, ℕ, ◌≤◌, length, drop}
use Rattle.model.specs.Limits.{report_bytes}
use Rattle.model.specs.File.{total}
use Rattle.model.specs.Run.{first_ring}
use Rattle.model.specs.Report.{bytes_of}
use Rattle.model.specs.PairFile.{second_ring, pop_sizes_of}
use Rattle.model.specs.PairOutcome.{Lent, PairOutcome}

pub record PairWorked : Type 0 where
  pub file : List ℕ
  pub marks : List ℕ
  pub out₁ : List ℕ
  pub numbers₁ : List ℕ
  pub out₂ : List ℕ
  pub numbers₂ : List ℕ

-- m = 1 and M = 2 for both rings, one push and one pop for each. Then the sizes, the bytes to push, the schedule.
abbrev file : (bits₁ bits₂ : ℕ) → List ℕ → List ℕ
file bits₁ bits₂ rest = 1 ∷ 2 ∷ 0 ∷ 0 ∷ 0 ∷ bits₁ ∷ 1 ∷ 1 ∷ 1 ∷ 2 ∷ 0 ∷ 0 ∷ 0 ∷ bits₂ ∷ 1 ∷ 1 ∷ rest

-- The first ring pushes and pops one byte; the second carries none, and yet a signal: its pop of no byte stores front, and its push of two, which no
-- ring of one slot has room for, loads front and fails.
abbrev with_signal : List ℕ → List ℕ
with_signal schedule = 1 ∷ 1 ∷ 2 ∷ 0 ∷ 65 ∷ 66 ∷ 67 ∷ schedule

-- Both rings push and pop one byte.
abbrev with_byte : List ℕ → List ℕ
with_byte schedule = 1 ∷ 1 ∷ 1 ∷ 1 ∷ 65 ∷ 66 ∷ schedule

-- An entry of each core byte, with age 0.
abbrev E0 : List ℕ → List ℕ
E0 l = 0 ∷ 0 ∷ l

abbrev E1 : List ℕ → List ℕ
E1 l = 1 ∷ 0 ∷ l

abbrev E2 : List ℕ → List ℕ
E2 l = 2 ∷ 0 ∷ l

abbrev E3 : List ℕ → List ℕ
E3 l = 3 ∷ 0 ∷ l

-- Core 0 pushes a byte at the first ring, then stores the second ring's front. Core 1 loads that front.
abbrev by_way : List ℕ → List ℕ
by_way l = E0 (E0 (E0 (E3 (E3 (E2 (E2 l))))))

-- Nothing happened at a ring.
abbrev silent : List ℕ
silent = 0 ∷ 0 ∷ 0 ∷ 0 ∷ 0 ∷ 0 ∷ 0 ∷ 0 ∷ 0 ∷ 0 ∷ 0 ∷ 0 ∷ []

-- The second ring's report there: four entries performed, one push failed by one byte.
abbrev failed_once : List ℕ
failed_once = 4 ∷ 0 ∷ 0 ∷ 0 ∷ 0 ∷ 0 ∷ 1 ∷ 0 ∷ 0 ∷ 0 ∷ 1 ∷ 0 ∷ []

-- Axiom 2 by way of the other ring: core 1 has read nothing of the first ring's back, and may not read its initial store.
abbrev pub hides : PairWorked
hides = record {
  file = file 15 15 (with_signal (by_way (E1 (1 ∷ 1 ∷ E1 (E1 (E1 []))))));
  marks = 1 ∷ 4 ∷ 6 ∷ 1 ∷ 6 ∷ 1 ∷ 3 ∷ 1 ∷ 134 ∷ 2 ∷ 5 ∷ 6 ∷ [];
  out₁ = 65 ∷ [];
  numbers₁ = 7 ∷ 1 ∷ 1 ∷ 1 ∷ 1 ∷ 0 ∷ 0 ∷ 0 ∷ 0 ∷ 0 ∷ 0 ∷ 0 ∷ [];
  out₂ = [];
  numbers₂ = failed_once;
}

-- An order by way of the other ring: the first ring's back does not synchronise, the second ring's front does, and nothing races.
abbrev pub orders : PairWorked
orders = record {
  file = file 13 15 (with_signal (by_way (E1 (E1 (E1 (E1 []))))));
  marks = 1 ∷ 4 ∷ 6 ∷ 1 ∷ 6 ∷ 1 ∷ 3 ∷ 1 ∷ 2 ∷ 5 ∷ 6 ∷ [];
  out₁ = 65 ∷ [];
  numbers₁ = 7 ∷ 0 ∷ 1 ∷ 1 ∷ 1 ∷ 0 ∷ 0 ∷ 0 ∷ 0 ∷ 0 ∷ 0 ∷ 0 ∷ [];
  out₂ = [];
  numbers₂ = failed_once;
}

-- Without the other ring's entries the same file races.
abbrev pub alone_races : PairWorked
alone_races = record {
  file = file 13 15 (with_signal (E0 (E0 (E0 (E1 (E1 (E1 (E1 []))))))));
  marks = 1 ∷ 4 ∷ 6 ∷ 1 ∷ 2 ∷ 7 ∷ 130 ∷ [];
  out₁ = [];
  numbers₁ = 6 ∷ 1 ∷ 1 ∷ 0 ∷ 0 ∷ 1 ∷ 0 ∷ 0 ∷ 6 ∷ 2 ∷ 0 ∷ 0 ∷ [];
  out₂ = [];
  numbers₂ = silent;
}

-- And where core 1's load of the second ring's front is relaxed.
abbrev pub relaxed_races : PairWorked
relaxed_races = record {
  file = file 13 14 (with_signal (by_way (E1 (E1 (E1 (E1 []))))));
  marks = 1 ∷ 4 ∷ 6 ∷ 1 ∷ 6 ∷ 1 ∷ 3 ∷ 1 ∷ 2 ∷ 7 ∷ 130 ∷ [];
  out₁ = [];
  numbers₁ = 6 ∷ 1 ∷ 1 ∷ 0 ∷ 0 ∷ 1 ∷ 0 ∷ 0 ∷ 10 ∷ 2 ∷ 0 ∷ 0 ∷ [];
  out₂ = [];
  numbers₂ = failed_once;
}

-- A byte in each direction, the two rings' entries one about the other.
abbrev pub crosses : PairWorked
crosses = record {
  file = file 15 15 (with_byte (E0 (E2 (E0 (E2 (E0 (E2 (E1 (E3 (E1 (E3 (E1 (E3 (E1 (E3 [])))))))))))))));
  marks = 1 ∷ 1 ∷ 4 ∷ 4 ∷ 6 ∷ 6 ∷ 1 ∷ 1 ∷ 2 ∷ 2 ∷ 5 ∷ 5 ∷ 6 ∷ 6 ∷ [];
  out₁ = 65 ∷ [];
  numbers₁ = 7 ∷ 0 ∷ 1 ∷ 1 ∷ 1 ∷ 0 ∷ 0 ∷ 0 ∷ 0 ∷ 0 ∷ 0 ∷ 0 ∷ [];
  out₂ = 66 ∷ [];
  numbers₂ = 7 ∷ 0 ∷ 1 ∷ 1 ∷ 1 ∷ 0 ∷ 0 ∷ 0 ∷ 0 ∷ 0 ∷ 0 ∷ 0 ∷ [];
}

-- A race in the second ring halts both. Core byte 4 names nobody, and counts for the first ring; so does an entry of the halted machine there.
abbrev pub halts_both : PairWorked
halts_both = record {
  file = file 15 13 (with_byte (E0 (E2 (E2 (E2 (E3 (E3 (E3 (E0 (4 ∷ 0 ∷ E3 []))))))))));
  marks = 1 ∷ 1 ∷ 4 ∷ 6 ∷ 1 ∷ 2 ∷ 7 ∷ 130 ∷ 129 ∷ 130 ∷ [];
  out₁ = [];
  numbers₁ = 1 ∷ 2 ∷ 0 ∷ 0 ∷ 0 ∷ 0 ∷ 0 ∷ 0 ∷ 0 ∷ 0 ∷ 0 ∷ 0 ∷ [];
  out₂ = [];
  numbers₂ = 6 ∷ 1 ∷ 1 ∷ 0 ∷ 0 ∷ 1 ∷ 0 ∷ 0 ∷ 7 ∷ 3 ∷ 0 ∷ 0 ∷ [];
}

abbrev pub pairs_worked : List PairWorked
pairs_worked = hides ∷ orders ∷ alone_races ∷ relaxed_races ∷ crosses ∷ halts_both ∷ []

-- What is written, in buffers that held b.
abbrev pub written : PairWorked → Lent → Lent
written w b = record {
  marks = w.marks ++ drop (length w.marks) b.marks;
  out₁ = w.out₁ ++ drop (length w.out₁) b.out₁;
  report₁ = bytes_of w.numbers₁ ++ drop report_bytes b.report₁;
  out₂ = w.out₂ ++ drop (length w.out₂) b.out₂;
  report₂ = bytes_of w.numbers₂ ++ drop report_bytes b.report₂;
}

-- With buffers long enough every outcome has code 0 and every byte as worked.
abbrev pub PairComes : PairWorked → Type 0
PairComes w = (b : Lent) (r : ℕ) (b' : Lent)
    → length w.marks ≤ length b.marks
    → total (pop_sizes_of first_ring w.file) ≤ length b.out₁ → report_bytes ≤ length b.report₁
    → total (pop_sizes_of second_ring w.file) ≤ length b.out₂ → report_bytes ≤ length b.report₂
    → PairOutcome w.file b r b' → (r ≡ 0) × (b' ≡ written w b)

abbrev pub AllPairsCome : List PairWorked → Type 0
AllPairsCome [] = Unit {0}
AllPairsCome (w ∷ ws) = PairComes w × AllPairsCome ws

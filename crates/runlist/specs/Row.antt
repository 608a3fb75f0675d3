-- The text of a row of numbers: what each is shown as, with one space between; and of a run, row by row.
use Rattle.std.specs.Prelude.{ℕ, List, [], ◌∷◌, ◌++◌, Option, Some}
use Rattle.std.specs.Fmt.{◌++?◌, decimal}
use lib.Chars.{codes}

-- Each of the elements after a space.
abbrev pub each_after_space : {T : Type 0} → (T → Option (List ℕ)) → List T → Option (List ℕ)
each_after_space shown [] = Some []
each_after_space shown (x ∷ xs) = (Some (32 ∷ []) ++? shown x) ++? each_after_space shown xs

-- The elements with one space between; no text where that of one of them is not known.
abbrev pub row_text : {T : Type 0} → (T → Option (List ℕ)) → List T → Option (List ℕ)
row_text shown [] = Some []
row_text shown (x ∷ xs) = shown x ++? each_after_space shown xs

-- A row of numbers in decimal.
abbrev pub decimals : List ℕ → Option (List ℕ)
decimals ns = row_text (λ n. Some (decimal n)) ns

-- What follows a number of a line: a space, and after the last one the line's end.
abbrev pub follows : List ℕ → ℕ
follows [] = 10
follows (x ∷ xs) = 32

-- Numbers in decimal, each with what follows it.
abbrev pub numbers_text : List ℕ → List ℕ
numbers_text [] = []
numbers_text (x ∷ xs) = decimal x ++ (follows xs ∷ numbers_text xs)

-- A line of numbers; where there are none, its end alone.
abbrev pub line_text : List ℕ → List ℕ
line_text [] = 10 ∷ []
line_text (x ∷ xs) = numbers_text (x ∷ xs)

-- Four lines: the code, the report, the marks, the bytes read.
abbrev pub played_text : List ℕ → List ℕ → List ℕ → Option (List ℕ)
played_text report marks bytes = Some (codes "code 0\n") ++? decimals report ++? Some (codes "\n") ++? decimals marks ++? Some (codes "\n") ++? decimals bytes ++? Some (codes "\n")

-- A line's text grows number by number, and is that of its row and the line's end.
use Rattle.std.proofs.Common.{◌≡◌, ℕ, ◌+◌, ◌/◌, ◌%◌, ◌<◌, ◌≤◌, List, [], ◌∷◌, ◌++◌, length, take, drop, slice_index_or, Option, Some, None, refl, sym, ap, ◌∙◌, append_assoc, append-nil, arith}
use Rattle.std.proofs.lemmas.Fmt.{decimal_digit, decimal_step}
use Rattle.std.proofs.lemmas.List.{drop_more, drop_all}
use Rattle.std.proofs.lemmas.Str.Ascii.{IsAscii-cons, IsAscii-nil}
use Rattle.std.specs.Fmt.{decimal, digits, ◌++?◌}
use Rattle.std.specs.Str.{IsAscii}
use lib.Chars.{codes}
use Rattle.runlist.specs.Row.{each_after_space, decimals, follows, numbers_text, line_text}
use Rattle.runlist.proofs.Rows.{text_assoc}

pub two_digits : (x : ℕ) → 10 ≤ x → x < 100 → decimal x ≡ (48 + x / 10) ∷ (48 + x % 10) ∷ []
two_digits x lo hi = rw (decimal_step x lo (omega arith), decimal_digit (x / 10) (omega arith)) refl

pub three_digits : (x : ℕ) → 100 ≤ x → x < 256 → decimal x ≡ (48 + x / 100) ∷ (48 + x / 10 % 10) ∷ (48 + x % 10) ∷ []
three_digits x lo hi =
    let hundreds : x / 10 / 10 ≡ x / 100 = omega arith in
    rw (decimal_step x (omega arith) (omega arith), decimal_step (x / 10) (omega arith) (omega arith), hundreds, decimal_digit (x / 100) (omega arith)) refl

-- What is put into a piece first stands behind what it held, and what is put next behind that.
module _ (old piece : List ℕ) (at place : ℕ) where
  pub first_put : (d : ℕ) → place ≡ at + 1 → take (at + 1) piece ≡ take at old ++ d ∷ [] → take place piece ≡ take at old ++ d ∷ []
  first_put d is text = ap (λ n. take n piece) is ∙ text

  pub more_put : (next : List ℕ) (end : ℕ) (ds : List ℕ) (d : ℕ) → take place piece ≡ take at old ++ ds → end ≡ place + 1 → take (place + 1) next ≡ take place piece ++ d ∷ []
      → take end next ≡ take at old ++ (ds ++ d ∷ [])
  more_put next end ds d before is text = ap (λ n. take n next) is ∙ text ∙ ap (λ t. t ++ d ∷ []) before ∙ append_assoc (take at old) ds (d ∷ [])

pub follows_more : (row : List ℕ) (n : ℕ) → n < length row → follows (drop n row) ≡ 32
follows_more row n below = ap follows (drop_more row n 0 below)

pub follows_last : (row : List ℕ) (n : ℕ) → length row ≤ n → follows (drop n row) ≡ 10
follows_last row n past = ap follows (drop_all n row past)

pub follows_plain : (row : List ℕ) → IsAscii (follows row ∷ [])
follows_plain [] = IsAscii-cons 10 [] (omega arith) IsAscii-nil
follows_plain (x ∷ row) = IsAscii-cons 32 [] (omega arith) IsAscii-nil

-- One number more of a row, and what follows it.
pub number_more : (row held : List ℕ) (n : ℕ) → n < length row
    → held ++ numbers_text (drop n row) ≡ ((held ++ decimal (slice_index_or row n 0)) ++ follows (drop (n + 1) row) ∷ []) ++ numbers_text (drop (n + 1) row)
number_more row held n below =
    let rest = drop (n + 1) row in
    let x = slice_index_or row n 0 in
    ap (λ l. held ++ numbers_text l) (drop_more row n 0 below)
    ∙ sym (append_assoc held (decimal x) (follows rest ∷ numbers_text rest))
    ∙ sym (append_assoc (held ++ decimal x) (follows rest ∷ []) (numbers_text rest))

-- Numbers, each with what follows it, are the row and the line's end.
numbers_are : (x : ℕ) (xs : List ℕ) → Some (numbers_text (x ∷ xs)) ≡ decimals (x ∷ xs) ++? Some (10 ∷ [])
numbers_are x [] = ap (λ t. Some (t ++ 10 ∷ [])) (sym (append-nil (decimal x)))
numbers_are x (y ∷ ys) =
    let others = each_after_space (λ n. Some (decimal n)) ys in
    let end = Some (10 ∷ []) in
    let space = Some (32 ∷ []) in
    let one = Some (decimal x) in
    let two = Some (decimal y) in
    ap (λ o. one ++? (space ++? o)) (numbers_are y ys)
    ∙ ap (λ o. one ++? o) (sym (text_assoc space (two ++? others) end) ∙ ap (λ o. o ++? end) (sym (text_assoc space two others)))
    ∙ sym (text_assoc one ((space ++? two) ++? others) end)

line_is : (xs : List ℕ) → Some (line_text xs) ≡ decimals xs ++? Some (10 ∷ [])
line_is [] = refl
line_is (x ∷ xs) = numbers_are x xs

code_line : (rest : Option (List ℕ)) → Some (codes "code ") ++? (Some (decimal 0) ++? (Some (codes "\n") ++? rest)) ≡ Some (codes "code 0\n") ++? rest
unfolding digits
code_line None = refl
code_line (Some a) = refl

-- What a run is printed as, text by text, is its four lines.
pub played_is : (report : Option (List ℕ)) (marks bytes : List ℕ)
    → Some (codes "code ") ++? Some (decimal 0) ++? Some (codes "\n") ++? report ++? Some (codes "\n") ++? Some (line_text marks) ++? Some (line_text bytes)
    ≡ Some (codes "code 0\n") ++? report ++? Some (codes "\n") ++? decimals marks ++? Some (codes "\n") ++? decimals bytes ++? Some (codes "\n")
played_is report marks bytes =
    let end = Some (codes "\n") in
    code_line (report ++? end ++? Some (line_text marks) ++? Some (line_text bytes))
    ∙ ap (λ o. Some (codes "code 0\n") ++? report ++? end ++? o)
    (ap (λ o. o ++? Some (line_text bytes)) (line_is marks) ∙ text_assoc (decimals marks) end (Some (line_text bytes)) ∙ ap (λ o. decimals marks ++? end ++? o) (line_is bytes))

-- The report as it is written, one number after the other.
use mathlib.Core.Path.{◌≡◌, refl, ap, sym, ◌∙◌}
use mathlib.Core.List.{List, [], ◌∷◌, ◌++◌, append_assoc}
use Prim.Native.Nat.{ℕ, suc, ◌+◌, ◌*◌, ◌<◌, ◌≤◌}
use native.Mathlib.Omega.{arith}
use native.Mathlib.Numerals.{add-one}
use lib.ListN.{get_or, length, take, drop, length-append, length-drop, length-take}
use lib.Seq.{take-suc, take_at, drop_at, drop-drop}
use Rattle.model.specs.Report.{le4, bytes_of}
use Rattle.little.specs.Little.{put4_of}
use Rattle.little.proofs.Written.{put_between}

put4_next : (p l : List ℕ) (k x : ℕ) → length p ≡ k
    → k + 4 ≤ length l → put4_of (p ++ drop k l) k x ≡ (p ++ le4 x) ++ drop (k + 4) l
put4_next p l k x e h =
    let long : k + 4 ≤ length (p ++ drop k l) = simp (length-append, length-drop) (omega arith) in
    let rest : drop (k + 4) (p ++ drop k l) ≡ drop (k + 4) l = sym (drop-drop 4 k (p ++ drop k l)) ∙ ap (drop 4) (drop_at p (drop k l) k e) ∙ drop-drop 4 k l in
    put_between (p ++ drop k l) k x long ∙ rw (take_at p (drop k l) k e, rest) (sym (append_assoc p (le4 x) (drop (k + 4) l)))

bytes_append : (xs ys : List ℕ) → bytes_of (xs ++ ys) ≡ bytes_of xs ++ bytes_of ys
unfolding bytes_of
bytes_append [] ys = refl
bytes_append (x ∷ xs) ys = rw (bytes_append xs ys)

bytes_length : (xs : List ℕ) → length (bytes_of xs) ≡ 4 * length xs
unfolding bytes_of
bytes_length [] = refl
bytes_length (x ∷ xs) = omega (arith, bytes_length xs)

bytes_one : (x : ℕ) → bytes_of (x ∷ []) ≡ le4 x
unfolding bytes_of
bytes_one x = refl

-- The report with its first i numbers written.
abbrev pub Written : (numbers before after : List ℕ) (i : ℕ) → Type 0
Written numbers before after i = after ≡ bytes_of (take i numbers) ++ drop (4 * i) before

-- One number more.
pub report_more : (numbers before : List ℕ) {after : List ℕ} (i : ℕ) → i < length numbers → 4 * i + 4 ≤ length before
    → Written numbers before after i → Written numbers before (put4_of after (4 * i) (get_or numbers i 0)) (i + 1)
report_more numbers before i h k w =
    let e : 4 * i + 4 ≡ 4 * suc i = omega arith in
    rw (w, add-one i, take-suc numbers i 0, bytes_append, bytes_one)
    (put4_next (bytes_of (take i numbers)) before (4 * i) (get_or numbers i 0) (rw (bytes_length, length-take) (omega arith)) k ∙ rw e)

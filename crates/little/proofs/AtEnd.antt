-- What a list of 256 numbers keeps when one is put behind the first n: its length, and that what was put there is the newest.
use Rattle.std.specs.Prelude.{◌≡◌, List, ℕ, ◌+◌, ◌-◌, ◌<◌, length, get_or, set}
use Rattle.std.proofs.Common.{sym, ◌∙◌, subst}
use Rattle.std.proofs.Math.Nat.{add-sub_cancel, zero-lt-suc}
use Rattle.std.proofs.Math.Numerals.{suc-eq-add-one}
use Rattle.std.proofs.lemmas.List.{length-set}
use Rattle.std.proofs.lemmas.Grind.{get_or-set_at}

-- There is a store.
pub some_more : (n : ℕ) → 0 < n + 1
some_more n = subst (λ (k : ℕ). 0 < k) (suc-eq-add-one n) (zero-lt-suc n)

-- An array is as long as it was.
pub set_long : (l : List ℕ) (n v : ℕ) → length l ≡ 256 → length (set l n v) ≡ 256
set_long l n v long = length-set l n v ∙ long

-- What was put there is the newest.
pub set_last : (l : List ℕ) (n v : ℕ) → length l ≡ 256 → n < 256 → v ≡ get_or (set l n v) (n + 1 - 1) 0
set_last l n v long room = sym (get_or-set_at l n (n + 1 - 1) v 0 (add-sub_cancel n 1) (subst (λ (k : ℕ). n < k) (sym long) room))

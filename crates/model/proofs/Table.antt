-- Laws of a table of codes, whatever its rows: which row is the first that applies. A code may stand in it more than once, so the laws go by place.
use mathlib.Core.Path.{◌≡◌, refl}
use mathlib.Core.Logic.{◌↔◌, ◌⊎◌, inl, inr}
use mathlib.Core.Bool.{Bool, true, false, cond}
use mathlib.Core.List.{List, [], ◌∷◌, ◌++◌}
use Prim.Native.Nat.{ℕ, ◌≤◌, ◌<◌}
use native.Mathlib.Omega.{arith}
use Rattle.order.proofs.Trace.{clash, cond_elim}
use Rattle.model.specs.Codes.{Row, first_of}

-- No row has code 0.
abbrev pub Nonzero : List Row → Type 0
Nonzero [] = Unit {0}
Nonzero (x ∷ xs) = (1 ≤ x.code) × Nonzero xs

-- No row applies.
abbrev pub Clear : List Row → Type 0
Clear [] = Unit {0}
Clear (x ∷ xs) = (x.applies ≡ false) × Clear xs

-- A row with code k applies, and none that stands before it does.
abbrev pub First : ℕ → List Row → Type 0
First k [] = ⊥
First k (x ∷ xs) = ((x.applies ≡ true) × (x.code ≡ k)) ⊎ ((x.applies ≡ false) × First k xs)

-- THE CODE IS k exactly when a row with code k applies and none before it does.
pub first_is : (xs : List Row) (k : ℕ) → 0 < k → (first_of xs ≡ k) ↔ First k xs
first_is [] k l = (λ e. omega arith, λ h. absurd h)
first_is (x ∷ xs) k l = go x.applies refl (first_is xs k l)
  where
    go : (b : Bool) → x.applies ≡ b → (first_of xs ≡ k) ↔ First k xs
        → (cond b x.code (first_of xs) ≡ k) ↔ (((x.applies ≡ true) × (x.code ≡ k)) ⊎ ((x.applies ≡ false) × First k xs))
    go true e ih = (λ p. inl (e, p), elim [ inl p ↦ p.1 | inr p ↦ clash (cc p.0) ])
    go false e ih = (λ p. inr (e, ih.0 p), elim [ inl p ↦ clash (cc p.0) | inr p ↦ ih.1 p.1 ])

-- THE CODE IS 0 exactly when no row applies.
pub clear_first : (xs : List Row) → Clear xs → first_of xs ≡ 0
clear_first [] h = refl
clear_first (x ∷ xs) h = rw h.0 (clear_first xs h.1)

pub none_applies : (xs : List Row) → Nonzero xs → first_of xs ≡ 0 → Clear xs
none_applies [] n e = tt
none_applies (x ∷ xs) n e = go x.applies refl e (none_applies xs n.1)
  where
    go : (b : Bool) → x.applies ≡ b → cond b x.code (first_of xs) ≡ 0 → (first_of xs ≡ 0 → Clear xs) → (x.applies ≡ false) × Clear xs
    go true k e h = let l = n.0 in absurd (omega arith)
    go false k e h = (k, h e)

-- A table in two parts is clear where both are.
pub clear_append : (xs ys : List Row) → Clear xs → Clear ys → Clear (xs ++ ys)
clear_append [] ys h k = k
clear_append (x ∷ xs) ys h k = (h.0, clear_append xs ys h.1 k)

pub clear_parts : (xs ys : List Row) → Clear (xs ++ ys) → Clear xs × Clear ys
clear_parts [] ys h = (tt, h)
clear_parts (x ∷ xs) ys h = let z = clear_parts xs ys h.1 in ((h.0, z.0), z.1)

-- Where none of the first rows applies, the code is that of the others.
pub first_append : (xs ys : List Row) → Clear xs → first_of (xs ++ ys) ≡ first_of ys
first_append [] ys h = refl
first_append (x ∷ xs) ys h = rw h.0 (first_append xs ys h.1)

-- Where one of the first rows applies, the code is theirs.
pub first_front : (xs ys : List Row) → ¬ (first_of xs ≡ 0) → first_of xs ≡ first_of (xs ++ ys)
first_front [] ys h = absurd (h refl)
first_front (x ∷ xs) ys h = go x.applies (first_front xs ys) h
  where
    go : (b : Bool) → (¬ (first_of xs ≡ 0) → first_of xs ≡ first_of (xs ++ ys)) → ¬ (cond b x.code (first_of xs) ≡ 0)
        → cond b x.code (first_of xs) ≡ cond b x.code (first_of (xs ++ ys))
    go true ih k = refl
    go false ih k = ih k

-- No row has a code above n.
abbrev pub AtMost : ℕ → List Row → Type 0
AtMost n [] = Unit {0}
AtMost n (x ∷ xs) = (x.code ≤ n) × AtMost n xs

pub first_most : (n : ℕ) (xs : List Row) → AtMost n xs → first_of xs ≤ n
first_most n [] h = omega arith
first_most n (x ∷ xs) h = cond_elim (λ (k : ℕ). k ≤ n) x.applies x.code (first_of xs) (λ _. h.0) (λ _. first_most n xs h.1)

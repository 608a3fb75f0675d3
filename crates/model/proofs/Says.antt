-- What the tests of a row say, as statements of numbers.
use mathlib.Core.Path.{◌≡◌, refl, ap}
use mathlib.Core.Logic.{◌↔◌, ◌⊎◌, inl, inr}
use mathlib.Core.Bool.{Bool, true, false, ◌||◌, not}
use mathlib.Core.List.{List}
use Prim.Native.Nat.{ℕ, ◌%◌, ◌<◌}
use lib.Dec.{eqb, ltb}
use borrow.Author.Tests.{ltb-true, lt-ltb, eqb-true, eqb-false, eq-eqb, ne_eqb, not-true}
use Rattle.order.proofs.Trace.{clash}
use Rattle.model.specs.Limits.{most_slots, least_modulus, most_modulus, most_order_bits}
use Rattle.model.specs.File.{ring_size, modulus_of, order_bits}
use Rattle.model.specs.Codes.{divides}

or_says : (x y : Bool) → ((x || y) ≡ true) ↔ ((x ≡ true) ⊎ (y ≡ true))
or_says true y = (λ e. inl refl, λ p. refl)
or_says false y = (λ e. inr e, elim [ inl p ↦ clash (cc) | inr p ↦ p ])

both : {A B C D : Type 0} → A ↔ C → B ↔ D → (A ⊎ B) ↔ (C ⊎ D)
both p q = (elim [ inl a ↦ inl (p.0 a) | inr b ↦ inr (q.0 b) ], elim [ inl a ↦ inl (p.1 a) | inr b ↦ inr (q.1 b) ])

pub either : {C D : Type 0} (x y : Bool) → (x ≡ true) ↔ C → (y ≡ true) ↔ D → ((x || y) ≡ true) ↔ (C ⊎ D)
either x y p q = let o = or_says x y in let b = both p q in (λ e. b.0 (o.0 e), λ h. o.1 (b.1 h))

pub lt_says : (a b : ℕ) → (ltb a b ≡ true) ↔ (a < b)
lt_says a b = (ltb-true a b, lt-ltb a b)

pub eq_says : (a b : ℕ) → (eqb a b ≡ true) ↔ (a ≡ b)
eq_says a b = (eqb-true a b, eq-eqb a b)

not_says : (a b : ℕ) → (not (eqb a b) ≡ true) ↔ (¬ (a ≡ b))
not_says a b = (λ e. eqb-false a b (not-true (eqb a b) e), λ h. ap not (ne_eqb a b h))

-- Rows 3 to 6, of a ring whose eight bytes are the first of f.
pub size_says : (f : List ℕ) → ((eqb (ring_size f) 0 || ltb most_slots (ring_size f)) ≡ true) ↔ ((ring_size f ≡ 0) ⊎ (128 < ring_size f))
size_says f = either (eqb (ring_size f) 0) (ltb most_slots (ring_size f)) (eq_says (ring_size f) 0) (lt_says most_slots (ring_size f))

pub modulus_says : (f : List ℕ)
    → ((ltb (modulus_of f) least_modulus || ltb most_modulus (modulus_of f)) ≡ true) ↔ ((modulus_of f < 2) ⊎ (65536 < modulus_of f))
modulus_says f =
    either (ltb (modulus_of f) least_modulus) (ltb most_modulus (modulus_of f)) (lt_says (modulus_of f) least_modulus) (lt_says most_modulus (modulus_of f))

pub divided_says : (f : List ℕ) → ((not (divides (ring_size f) (modulus_of f)) || eqb (modulus_of f) (ring_size f)) ≡ true)
    ↔ ((¬ (modulus_of f % ring_size f ≡ 0)) ⊎ (modulus_of f ≡ ring_size f))
divided_says f =
    either (not (divides (ring_size f) (modulus_of f))) (eqb (modulus_of f) (ring_size f)) (not_says (modulus_of f % ring_size f) 0)
    (eq_says (modulus_of f) (ring_size f))

pub orders_say : (f : List ℕ) → (ltb most_order_bits (order_bits f) ≡ true) ↔ (15 < order_bits f)
orders_say f = lt_says most_order_bits (order_bits f)

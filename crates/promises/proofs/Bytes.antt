-- A file that was written down from small numbers is a list of bytes.
use mathlib.Core.List.{List, [], ◌∷◌, ◌++◌}
use Prim.Native.Nat.{ℕ, zero, suc, ◌<◌}
use native.Mathlib.Omega.{arith}
use lib.ListN.{length, replicate}
use Rattle.model.specs.File.{byte_at, Entry, flat, Part}
use Rattle.promises.specs.Written.{eight_bytes, file_of, pair_file_of}
use Rattle.promises.specs.Weak.{turns}

-- A list of bytes.
abbrev pub Bytes : List ℕ → Type 0
Bytes [] = Unit {0}
Bytes (x ∷ l) = (x < 256) × Bytes l

pub bytes-at : (l : List ℕ) → Bytes l → (i : ℕ) → byte_at l i < 256
bytes-at [] h i = omega arith
bytes-at (x ∷ l) h zero = h.0
bytes-at (x ∷ l) h (suc i) = bytes-at l h.1 i

pub bytes_append : (l k : List ℕ) → Bytes l → Bytes k → Bytes (l ++ k)
bytes_append [] k h j = j
bytes_append (x ∷ l) k h j = (h.0, bytes_append l k h.1 j)

pub bytes_replicate : (n x : ℕ) → x < 256 → Bytes (replicate n x)
bytes_replicate zero x h = tt
bytes_replicate (suc n) x h = (h, bytes_replicate n x h)

pub bytes_turns : (core k : ℕ) (rest : List Entry) → core < 256 → Bytes (flat rest) → Bytes (flat (turns core k rest))
bytes_turns core zero rest h j = j
bytes_turns core (suc k) rest h j = (h, (omega arith, bytes_turns core k rest h j))

-- What a ring says is of bytes, and there are no more than 255 batches of a kind.
pub record Small (p : Part) : Type 0 where
  pub size_is : p.size < 256
  pub bits_are : p.bits < 256
  pub few_pushes : length p.push_sizes < 256
  pub few_pops : length p.pop_sizes < 256
  pub pushes_are : Bytes p.push_sizes
  pub pops_are : Bytes p.pop_sizes
  pub bytes_are : Bytes p.push_bytes

eight-bytes : (p : Part) → Small p → (rest : List ℕ) → Bytes rest → Bytes (eight_bytes p rest)
eight-bytes p s rest h = (s.size_is, (omega arith, (omega arith, (omega arith, (omega arith, (s.bits_are, (s.few_pushes, (s.few_pops, h))))))))

-- The two kinds of file.
pub file_bytes : (p : Part) (es : List Entry) → Small p → Bytes (flat es) → Bytes (file_of p es)
unfolding file_of
file_bytes p es s h =
    let c : List ℕ = p.push_bytes ++ flat es in
    let b : List ℕ = p.pop_sizes ++ c in
    let a : List ℕ = p.push_sizes ++ b in
    eight-bytes p s a (bytes_append p.push_sizes b s.pushes_are (bytes_append p.pop_sizes c s.pops_are (bytes_append p.push_bytes (flat es) s.bytes_are h)))

pub pair_file_bytes : (p q : Part) (es : List Entry) → Small p → Small q → Bytes (flat es) → Bytes (pair_file_of p q es)
unfolding pair_file_of
pair_file_bytes p q es s v h =
    let l₆ : List ℕ = q.push_bytes ++ flat es in
    let l₅ : List ℕ = p.push_bytes ++ l₆ in
    let l₄ : List ℕ = q.pop_sizes ++ l₅ in
    let l₃ : List ℕ = q.push_sizes ++ l₄ in
    let l₂ : List ℕ = p.pop_sizes ++ l₃ in
    let l₁ : List ℕ = p.push_sizes ++ l₂ in
    eight-bytes p s (eight_bytes q l₁) (eight-bytes q v l₁ (
    bytes_append p.push_sizes l₂ s.pushes_are (
    bytes_append p.pop_sizes l₃ s.pops_are (
    bytes_append q.push_sizes l₄ v.pushes_are (
    bytes_append q.pop_sizes l₅ v.pops_are (
    bytes_append p.push_bytes l₆ s.bytes_are (
    bytes_append q.push_bytes (flat es) v.bytes_are h)))))))

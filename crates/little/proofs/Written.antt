-- Laws of numbers written into bytes: a number that fits stands between what was before it and what was after it, and another is not written.
use mathlib.Core.Path.{◌≡◌, sym, ◌∙◌}
use mathlib.Core.List.{List, ◌++◌, append_assoc}
use Prim.Native.Nat.{ℕ, ◌+◌, ◌-◌, ◌<◌, ◌≤◌}
use native.Mathlib.Omega.{arith}
use lib.ListN.{length, take, drop}
use lib.Seq.{sets-eq}
use borrow.Author.Tests.{le-leb, lt-leb}
use borrow.Rule.Slice.PartMut.{put_mid, Post-is}
use Rattle.std.specs.Int.{w32, to_le_bytes}
use Rattle.model.specs.Report.{le4}
use Rattle.little.specs.Little.{put4_of}

-- A number that does not fit is not written.
pub put_none : (l : List ℕ) (at x : ℕ) → length l < at + 4 → l ≡ put4_of l at x
unfolding put4_of
put_none l at x h = rw (lt-leb (at + 4) (length l) h)

-- One that does stands between what was before it and what was after it.
pub put_between : (l : List ℕ) (at x : ℕ) → at + 4 ≤ length l → put4_of l at x ≡ take at l ++ (le4 x ++ drop (at + 4) l)
unfolding put4_of
put_between l at x h = rw (le-leb (at + 4) (length l) h) (sets-eq (le4 x) l at h ∙ append_assoc (take at l) (le4 x) (drop (at + 4) l))

-- So it is written where its bytes are put in the place of the four from there on.
pub put_in_place : (l bytes : List ℕ) (at x : ℕ) → at + 4 ≤ length l → bytes ≡ to_le_bytes w32 x → put_mid at (at + 4 - at) l bytes ≡ put4_of l at x
put_in_place l bytes at x h e = rw (e, Post-is at (at + 4) l (omega arith)) (sym (put_between l at x h))

-- A number's four bytes are put in place where there are four, and not at all elsewhere.
use Rattle.std.proofs.Common.{arith, ◌∙◌}
use Rattle.little.proofs.Written.{put_none, put_in_place}
use Rattle.little.proofs.put4.Goals as goal

pub returns-then-saturating_add-bytes : goal.returns-then-saturating_add-bytes
returns-then-saturating_add-bytes c =
    put_in_place c.args.bytes.now _ c.args.at c.args.x (omega arith) (c.copy_from_slice.ensures.after ∙ c.to_le_bytes.ensures)

pub returns-else-saturating_add-bytes : goal.returns-else-saturating_add-bytes
returns-else-saturating_add-bytes c = put_none c.args.bytes.now c.args.at c.args.x (omega arith)

-- Where the parts of a ring of a pair's file lie, as the code keeps it.
use Rattle.std.specs.Prelude.{List, ℕ, ◌+◌}
use Rattle.order.specs.Trace.{Ring}
use Rattle.model.specs.File.{push_count, pop_count}
use Rattle.model.specs.PairFile.{header_of, sizes_at, bytes_at}
use Rattle.file.specs.declared.pair.Layout.{Layout}

-- The layout of the ring with these eight bytes, whose push sizes begin at one place and whose bytes to push at another.
abbrev pub placed : (header : List ℕ) → (push bytes : ℕ) → Layout
placed h push bytes = record { push = push; pop = push + push_count h; bytes = bytes; pushes = push_count h; pops = pop_count h }

-- The layout of ring r.
abbrev pub layout_of : Ring → List ℕ → Layout
layout_of r f = placed (header_of r f) (sizes_at r f) (bytes_at r f)

-- `book::order::extents_ordered` meets its contract.
-- Assumes nothing.
use mathlib.Core.Path.{◌≡◌}
use Prim.Native.Nat.{◌-◌, ◌<◌}
use Rattle.rules.specs.Extent.{extent_bytes, decode_extent}
use Rattle.format.specs.Records.{extent_of}
use Rattle.book.specs.Places.{record_at, follows}
use Rattle.book.proofs.OrderLaws.{Follow}
use Rattle.book.proofs.order.extents_ordered.Given as goal

abbrev pub invariant-loop-i : goal.invariant-loop-i
invariant-loop-i l =
    (0 < l.i) × Follow follows decode_extent extent_bytes l.s l.i × (extent_of l.last ≡ record_at decode_extent extent_bytes l.s (l.i - 1))

abbrev pub decreases-loop-i : goal.decreases-loop-i
decreases-loop-i l = l.n - l.i

-- `intake_books::extents_kept` meets its contract.
-- Assumes nothing.
use mathlib.Core.Path.{◌≡◌}
use Prim.Native.Nat.{◌-◌, ◌<◌}
use Rattle.rules.specs.Extent.{extent_bytes, decode_extent}
use Rattle.format.specs.Records.{extent_of}
use Rattle.book.specs.Places.{record_at, follows}
use Rattle.intake_books.proofs.WalkLaws.{Kept}
use Rattle.intake_books.specs.BookTests.{extent_right}
use Rattle.intake_books.proofs.extents_kept.Given as goal

abbrev pub invariant-loop-i : goal.invariant-loop-i
invariant-loop-i l =
    (0 < l.i) × Kept (extent_right l.blocks) follows decode_extent extent_bytes l.s l.i × (extent_of l.last ≡ record_at decode_extent extent_bytes l.s (l.i - 1))

-- `sharing::blocks_shared` meets its contract. The loop keeps: the blocks of the extents before place `i` are marked, and none of them was marked twice.
-- Assumes nothing.
use mathlib.Core.Path.{◌≡◌}
use lib.ListN.{length}
use Rattle.rules.specs.Extent.{extent_bytes, decode_extent}
use Rattle.rules.specs.Book.{decode_book}
use Rattle.sharing.specs.Sharing.{Seen}
use Rattle.sharing.proofs.blocks_shared.Given as goal

abbrev pub invariant-loop-i : goal.invariant-loop-i
invariant-loop-i l =
    (length l.seen ≡ length l.initial.seen) × Seen l.seen (decode_book decode_extent extent_bytes l.i l.extents)

-- `image::put::write_new` meets its contract. The loop keeps: the blocks from `i` on make of the image what all of them make of the image at first.
-- Assumes nothing.
use mathlib.Core.Path.{◌≡◌}
use lib.ListN.{length}
use Rattle.image.proofs.PutLaws.{Put}
use Rattle.image.proofs.put.write_new.Given as goal

abbrev pub invariant-loop-i : goal.invariant-loop-i
invariant-loop-i l =
    (length l.image ≡ length l.initial.image) × Put l.bytes l.kept l.blocks l.initial.image l.image l.i

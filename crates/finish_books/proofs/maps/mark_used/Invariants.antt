-- `finish_books::maps::mark_used` meets its contract.
-- Assumes nothing.
use Rattle.finish_books.proofs.MapLaws.{Marked}
use Prim.Native.Nat.{◌≤◌}
use lib.ListN.{length, take}
use Rattle.finish_books.specs.Buffers.{new_of}
use Rattle.finish_books.proofs.maps.mark_used.Given as goal

abbrev pub invariant-loop-f : goal.invariant-loop-f
invariant-loop-f l =
    (l.f ≤ length l.kept) × Marked l.initial.used (new_of (take l.f l.kept) (take l.f l.blocks)) l.used

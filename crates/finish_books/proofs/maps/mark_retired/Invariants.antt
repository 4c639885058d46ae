-- `finish_books::maps::mark_retired` meets its contract.
-- Assumes nothing.
use Rattle.finish_books.proofs.MapLaws.{Marked}
use Prim.Native.Nat.{◌≤◌}
use lib.ListN.{length, take}
use Rattle.rules.specs.Kept.{superseded}
use Rattle.mapping.specs.Entries.{entries}
use Rattle.finish_books.proofs.maps.mark_retired.Given as goal

abbrev pub invariant-loop-f : goal.invariant-loop-f
invariant-loop-f l =
    (l.f ≤ length l.old) × Marked l.initial.retired (superseded (entries (take l.f l.old)) (entries l.kept)) l.retired

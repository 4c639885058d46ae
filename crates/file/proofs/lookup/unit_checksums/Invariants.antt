-- `file::lookup::unit_checksums` meets its contract. The loop keeps: the checksums of the units so far are looked up.
-- Assumes nothing.
use mathlib.Core.Path.{◌≡◌}
use Prim.Native.Nat.{◌≤◌}
use lib.ListN.{length}
use Rattle.rules.specs.Group.{group_bytes, decode_group}
use Rattle.rules.specs.Book.{decode_book}
use Rattle.mapping.specs.Entries.{slot_of}
use Rattle.file.specs.LookUp.{EachUnit}
use Rattle.file.proofs.lookup.unit_checksums.Given as goal

abbrev pub invariant-loop-j : goal.invariant-loop-j
invariant-loop-j l =
    (l.j ≤ length l.units) × (length l.slots ≡ length l.initial.slots) × EachUnit (slot_of (decode_book decode_group group_bytes l.n l.groups) l.object) l.j l.units l.slots

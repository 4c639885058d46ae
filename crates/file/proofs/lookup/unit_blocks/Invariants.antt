-- `file::lookup::unit_blocks` meets its contract. The loop keeps: the blocks of the units so far are looked up.
-- Assumes nothing.
use mathlib.Core.Path.{◌≡◌}
use Prim.Native.Nat.{◌≤◌}
use lib.ListN.{length}
use Rattle.rules.specs.Extent.{mapping}
use Rattle.mapping.specs.Entries.{extents_in}
use Rattle.file.specs.LookUp.{EachBlock}
use Rattle.file.proofs.lookup.unit_blocks.Given as goal

abbrev pub invariant-loop-j : goal.invariant-loop-j
invariant-loop-j l =
    (l.j ≤ length l.units) × (length l.old ≡ length l.initial.old) × EachBlock (mapping (extents_in l.n l.extents) l.object) l.j l.units l.old

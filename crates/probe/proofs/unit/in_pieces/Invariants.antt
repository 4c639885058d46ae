-- `probe::unit::in_pieces` meets its contract. The loop keeps: the state and the window have been fed the first `at` bytes.
-- Assumes nothing.
use Prim.Native.Nat.{◌-◌, ◌≤◌}
use mathlib.Core.Path.{◌≡◌}
use lib.ListN.{length, take}
use Rattle.crc32c.specs.Unit.{UnitFed}
use Rattle.probe.proofs.unit.in_pieces.Given as goal

abbrev pub invariant-loop-at : goal.invariant-loop-at
invariant-loop-at l =
    (l.at ≤ length l.s) × (length l.w ≡ 4624) × UnitFed l.state l.w l.uuid l.object l.unit (length l.s) (take l.at l.s)

abbrev pub decreases-loop-at : goal.decreases-loop-at
decreases-loop-at l = length l.s - l.at

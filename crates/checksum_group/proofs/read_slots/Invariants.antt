-- `checksum_group::read_slots` meets its contract.
-- Assumes nothing.
use mathlib.Core.Path.{◌≡◌}
use Prim.Native.Nat.{ℕ, ◌+◌, ◌-◌, ◌*◌, ◌≤◌, ◌<◌}
use lib.ListN.{length, get_or}
use Rattle.rules.specs.Bytes.{le, part}
use Rattle.checksum_group.proofs.read_slots.Given as goal

abbrev pub invariant-loop-i : goal.invariant-loop-i
invariant-loop-i l =
    (l.i ≤ 256) × (length l.slots ≡ 256) × ((k : ℕ) → k < l.i → get_or l.slots k 0 ≡ le (part (l.at + 4 * k) 4 l.s))

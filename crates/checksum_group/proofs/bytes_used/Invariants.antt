-- `checksum_group::bytes_used` meets its contract.
-- Assumes nothing.
use mathlib.Core.Path.{◌≡◌}
use Prim.Native.Nat.{ℕ, ◌≤◌, ◌<◌}
use lib.ListN.{get_or}
use Rattle.checksum_group.proofs.bytes_used.Given as goal

abbrev pub invariant-loop-i : goal.invariant-loop-i
invariant-loop-i l = (l.i ≤ 32) × ((k : ℕ) → l.i ≤ k → k < 32 → get_or l.present k 0 ≡ 0)

-- `image::out::hand_out` meets its contract. The loop keeps: the first `d` bytes stand at the head of the buffer, and its rest is as it was.
-- Assumes nothing.
use mathlib.Core.Path.{◌≡◌}
use Prim.Native.Nat.{◌-◌, ◌≤◌}
use lib.ListN.{length}
use Rattle.rules.specs.Bytes.{part, patch}
use Rattle.mapping.specs.Entries.{entries}
use Rattle.image.specs.Blocks.{blocks_bytes}
use Rattle.image.proofs.out.hand_out.Given as goal

abbrev pub invariant-loop-d : goal.invariant-loop-d
invariant-loop-d l =
    (l.d ≤ l.n) × (length l.out ≡ length l.initial.out) × (l.out ≡ patch l.initial.out 0 (part l.at l.d (blocks_bytes l.image (entries l.blocks))))

abbrev pub decreases-loop-d : goal.decreases-loop-d
decreases-loop-d l = l.n - l.d

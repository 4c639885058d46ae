-- `bitmap::next_pairs` meets its contract. The loop keeps: no bit of the first k pairs is as asked.
-- Assumes nothing.
use Rattle.std.proofs.Common.{◌+◌, ◌*◌}
use Rattle.bitmap.specs.Map.{Next}
use Rattle.bitmap.proofs.next_pairs.Given as goal

abbrev pub invariant-loop-k : goal.invariant-loop-k
invariant-loop-k l = Next l.m l.value l.a (l.a + 128 * l.k) (l.a + 128 * l.k)

-- `bitmap::count_words` meets its contract. The loop keeps: `total` is how many bits of the first `k` words are set.
-- Assumes nothing.
use Rattle.std.proofs.Common.{◌≡◌, ◌*◌, ◌≤◌}
use Rattle.rules.specs.Lists.{count, range}
use Rattle.rules.specs.Bytes.{bit_set}
use Rattle.bitmap.proofs.count_words.Given as goal

abbrev pub invariant-loop-k : goal.invariant-loop-k
invariant-loop-k l = (l.total ≤ 64 * l.k) × (l.total ≡ count (bit_set l.m) (range l.a (64 * l.k)))

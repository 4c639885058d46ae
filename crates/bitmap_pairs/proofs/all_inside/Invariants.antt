-- `bitmap_pairs::all_inside` meets its contract. The loop keeps: `failed` is zero where no bit of the first `k` words fails.
-- Assumes nothing.
use Rattle.std.proofs.Common.{◌≡◌, ◌*◌, eqb}
use Rattle.rules.specs.Lists.{all, range}
use Rattle.bitmap_pairs.specs.Pair.{inside}
use Rattle.bitmap_pairs.proofs.all_inside.Given as goal

abbrev pub invariant-loop-k : goal.invariant-loop-k
invariant-loop-k l = eqb l.failed 0 ≡ all (inside l.m l.x) (range 0 (64 * l.k))

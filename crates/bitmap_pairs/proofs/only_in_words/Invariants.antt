-- `bitmap_pairs::only_in_words` meets its contract. The loop keeps: `passed` has all bits where every bit of the first `k` words passes.
-- Assumes nothing.
use Rattle.std.proofs.Common.{◌≡◌, ◌*◌, eqb}
use Rattle.rules.specs.Lists.{all, range}
use Rattle.bitmap_pairs.specs.Pair.{only}
use Rattle.bitmap_pairs.proofs.only_in_words.Given as goal

abbrev pub invariant-loop-k : goal.invariant-loop-k
invariant-loop-k l = eqb l.passed 0xffffffffffffffff ≡ all (only l.m l.x) (range (8 * l.i) (64 * l.k))

-- `bitmap::fill_bits` meets its contract. The loop keeps: the bits from `a` to `n` are as asked, and the others as they were.
-- Assumes nothing.
use Rattle.std.proofs.Common.{◌≡◌}
use Rattle.bitmap.specs.Map.{with_bits}
use Rattle.bitmap.proofs.fill_bits.Given as goal

abbrev pub invariant-loop-n : goal.invariant-loop-n
invariant-loop-n l = l.m ≡ with_bits l.value l.initial.m l.a l.n

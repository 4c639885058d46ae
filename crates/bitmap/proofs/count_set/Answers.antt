-- `bitmap::count_set` meets its contract: it adds up the bits of three parts.
-- Assumes nothing.
use Rattle.bitmap.proofs.MapLaws.{count_most, count-three}
use native.Mathlib.Omega.{arith}
use Rattle.bitmap.proofs.count_set.Goals as goal

pub overflow_add-result : goal.overflow_add-result
overflow_add-result c = omega (arith, count_most _ _ _ _ c.count_bits-2.ensures, count_most _ _ _ _ c.count_words.ensures)

pub overflow_add-result-2 : goal.overflow_add-result-2
overflow_add-result-2 c = omega (arith, count_most _ _ _ _ c.count_bits-2.ensures, count_most _ _ _ _ c.count_words.ensures, count_most _ _ _ _ c.count_bits-3.ensures)

pub returns : goal.returns
returns c = count-three _ _ _ _ _ _ _ _ c.count_bits-2.ensures c.count_words.ensures c.count_bits-3.ensures (omega arith) (omega arith) (omega arith)

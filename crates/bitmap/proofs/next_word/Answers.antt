-- `bitmap::next_word` meets its contract: the word's first bit of the kind is the map's next.
-- Assumes nothing.
use Rattle.bitmap.proofs.MapLaws.{word_next, word-one}
use native.Mathlib.Omega.{arith}
use Rattle.bitmap.proofs.next_word.Goals as goal

pub returns-then-k-lt64 : goal.returns-then-k-lt64
returns-then-k-lt64 c = (omega arith, word_next _ _ _ _ _ c.le64.ensures (omega arith) (λ k. (c.type_inv.m k).fits) c.first-k.ensures)

pub returns-else-k-lt64 : goal.returns-else-k-lt64
returns-else-k-lt64 c = word-one _ _ _ _ _ c.le64.ensures (omega arith) (λ k. (c.type_inv.m k).fits) c.first-k.ensures (omega arith)

-- `bitmap_pairs::only_in_word` meets its contract.
-- Assumes nothing.
use native.Mathlib.Omega.{arith}
use Rattle.bitmap_pairs.proofs.PairLaws.{holds_of}
use Rattle.bitmap_pairs.proofs.only_in_word.Goals as goal

pub returns : goal.returns
returns c = holds_of _ _ _ _ _ c.only_word.ensures c.bits_set.ensures (omega arith)

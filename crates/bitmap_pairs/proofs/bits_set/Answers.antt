-- `bitmap_pairs::bits_set` meets its contract.
-- Assumes nothing.
use native.Mathlib.Omega.{arith}
use Rattle.bitmap_pairs.proofs.PairLaws.{set-part}
use Rattle.bitmap_pairs.proofs.bits_set.Goals as goal

pub returns : goal.returns
returns c = set-part _ _ _ (omega arith)

-- `bitmap::fill` meets its contract: it fills three parts one behind the other.
-- Assumes nothing.
use Rattle.bitmap.proofs.MapLaws.{fill-three}
use native.Mathlib.Omega.{arith}
use Rattle.bitmap.proofs.fill.Goals as goal

pub returns : goal.returns
returns c = fill-three _ _ _ _ _ _ _ _ _ c.fill_bits-2.ensures c.fill_bytes.ensures c.fill_bits-3.ensures (omega arith) (omega arith) (omega arith)

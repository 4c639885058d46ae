-- `bitmap::get` meets its contract.
-- Assumes nothing.
use Rattle.rules.specs.Bytes.{bit_set}
use mathlib.Core.Path.{refl}
use Rattle.bitmap.proofs.get.Goals as goal

pub returns : goal.returns
unfolding bit_set
returns c = refl

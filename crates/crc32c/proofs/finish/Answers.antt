-- `crc32c::finish` meets its contract.
-- Assumes nothing.
use mathlib.Core.Path.{refl}
use Rattle.crc32c_tables.specs.Register.{finished}
use Rattle.crc32c.proofs.finish.Goals as goal

pub returns : goal.returns
unfolding finished
returns c = refl

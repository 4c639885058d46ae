-- `crc32c::begin_unit` meets its contract.
-- Assumes nothing.
use mathlib.Core.Path.{refl}
use Rattle.crc32c.proofs.Running.{unit-begun}
use Rattle.crc32c.proofs.begin_unit.Goals as goal

pub returns : goal.returns
returns c = unit-begun _ _ _ _ _ _ _ _ _ _ _ refl c.put_be64.ensures c.put_be64-2.ensures c.put_be32.ensures c.begin.ensures c.feed.ensures c.feed-2.ensures

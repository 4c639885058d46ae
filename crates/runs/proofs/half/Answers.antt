-- `runs::half` meets its contract: two bytes side by side are sixteen bits of the map.
-- Assumes nothing.
use Rattle.runs.proofs.RunLaws.{half-bits}
use Rattle.std.proofs.Common.{rules}
use Rattle.runs.proofs.half.Goals as goal

pub returns : goal.returns
returns c = half-bits _ _ _ (search rules) c.from_le_bytes.ensures

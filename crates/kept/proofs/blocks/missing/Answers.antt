-- `kept::blocks::missing` meets its contract. Assumes nothing.
use Rattle.kept.proofs.BlocksLaws.{missing-is}
use Rattle.kept.proofs.blocks.missing.Goals as goal

pub returns : goal.returns
returns c = missing-is _ _ c.from.ensures

-- `layout::write_twice` meets its contract: a write, then another.
-- Assumes nothing.
use Rattle.layout.proofs.RunLaws.{wrote}
use Rattle.layout.proofs.write_twice.Goals as goal

pub returns : goal.returns
returns c = wrote _ _ _ _ _ _ _ c.sangueko_write.ensures c.sangueko_write-2.ensures

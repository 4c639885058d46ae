-- `layout::lay_out` meets its contract: its three parts, one after the other.
-- Assumes nothing.
use Rattle.layout.proofs.RunLaws.{laid_out}
use Rattle.layout.proofs.lay_out.Goals as goal

pub returns : goal.returns
returns c = laid_out _ _ _ _ c.begin.ensures c.write_twice.ensures c.grow_twice.ensures

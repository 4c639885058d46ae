-- `layout::grow_twice` meets its contract: a grow, settle, and the grow again.
-- Assumes nothing.
use Rattle.layout.proofs.RunLaws.{grew}
use Rattle.layout.proofs.grow_twice.Goals as goal

pub returns : goal.returns
returns c = grew _ _ _ _ _ _ _ _ _ _ c.sangueko_grow.ensures c.sangueko_settle.ensures c.sangueko_grow-2.ensures

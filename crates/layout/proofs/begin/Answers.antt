-- `layout::begin` meets its contract: fresh, then enter.
-- Assumes nothing.
use Rattle.layout.proofs.RunLaws.{began}
use Rattle.layout.proofs.begin.Goals as goal

pub returns : goal.returns
returns c = began _ _ _ _ _ _ _ c.sangueko_fresh.ensures c.sangueko_enter.ensures

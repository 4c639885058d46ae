-- `store::fresh::fresh_head` meets its contract.
-- Assumes nothing.
use Rattle.store.proofs.MapLaws.{fresh-head-is}
use Rattle.store.proofs.fresh.fresh_head.Goals as goal

pub returns : goal.returns
returns c = fresh-head-is _ _ _ _ _ c.requires.1 c.read_uuid.ensures c.encode_head.ensures

-- `kept::kept::continues` meets its contract. Each return is one case of the definition. Assumes nothing.
use Rattle.kept.proofs.RunLaws.{continues-none, continues-some}
use Rattle.kept.proofs.kept.continues.Goals as goal

pub returns-in-None : goal.returns-in-None
returns-in-None c = continues-none _ _ _ _ c.in-None.ensures c.block_of-in-None.ensures c.is_none.ensures

pub returns-in-Some : goal.returns-in-Some
returns-in-Some c = continues-some _ _ _ _ _ c.in-Some.ensures c.block_of-in-Some.ensures c.eq.ensures

-- `file::carry::carry_extents` meets its contract.
-- Assumes nothing.
use Rattle.finish_extents.proofs.ExchangeLaws.{finished-book}
use Rattle.file.proofs.carry.carry_extents.Goals as goal

pub returns : goal.returns
returns c = λ object us bs rs f d. finished-book object us bs rs _ _ _ _ _ _ _ f d c.finish_extents.ensures

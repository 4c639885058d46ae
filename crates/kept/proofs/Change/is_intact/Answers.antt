-- `kept::Change::is_intact` meets its contract. Each return is one case of an intact block. Assumes nothing.
use Rattle.kept.proofs.ChangeLaws.{intact-inside, intact-outside}
use Rattle.kept.proofs.Change.is_intact.Goals as goal

pub returns-then-at-settled : goal.returns-then-at-settled
returns-then-at-settled c = intact-inside _ _ _ _ _ c.if-at-settled.true _ c.written_in.ensures

pub returns-else-at-settled : goal.returns-else-at-settled
returns-else-at-settled c = intact-outside _ _ _ _ _ c.if-at-settled.false

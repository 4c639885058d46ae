-- `crc32c::unit::begin` meets its contract.
-- Assumes nothing.
use Rattle.crc32c.proofs.UnitLaws.{register-begun, window-begun}
use borrow.Author.Rules.{rules}
use Rattle.crc32c.proofs.unit.begin.Goals as goal

pub returns-then-valid-lt1024 : goal.returns-then-valid-lt1024
returns-then-valid-lt1024 c = register-begun _ _ _ _ _ _ c.begin_unit-c.ensures (search rules)

pub returns : goal.returns
returns c = window-begun _ _ _ _ _ _ c.begin_unit-c.ensures c.set_register.ensures (search rules)

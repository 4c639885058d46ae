-- `crc32c::unit::finish` meets its contract.
-- Assumes nothing.
use Rattle.crc32c.proofs.UnitLaws.{register-finished, window-finished}
use Rattle.crc32c.proofs.unit.finish.Goals as goal

pub returns-in-Register : goal.returns-in-Register
returns-in-Register c = register-finished _ _ _ _ c.in-Register.is c.finish.ensures

pub returns-in-Window : goal.returns-in-Window
returns-in-Window c = window-finished _ _ _ _ c.in-Window.is c.register.ensures c.finish-in-Window.ensures

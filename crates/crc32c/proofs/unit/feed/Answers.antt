-- `crc32c::unit::feed` meets its contract.
-- Assumes nothing.
use Rattle.crc32c.proofs.UnitLaws.{register-fed, window-fed}
use borrow.Author.Rules.{rules}
use Rattle.crc32c.proofs.unit.feed.Goals as goal

pub returns-in-Register : goal.returns-in-Register
returns-in-Register c = register-fed _ _ _ _ _ c.in-Register.is c.feed.ensures (search rules)

pub returns-in-Window : goal.returns-in-Window
returns-in-Window c = window-fed _ _ _ _ c.in-Window.is c.push.ensures (search rules)

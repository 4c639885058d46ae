-- `crc32c_window::set_register` meets its contract.
-- Assumes nothing.
use Rattle.crc32c_window.proofs.WindowLaws.{register-set}
use borrow.Author.Rules.{rules}
use Rattle.crc32c_window.proofs.set_register.Goals as goal

pub returns : goal.returns
returns c = register-set _ _ _ _ c.zero.ensures c.put_le32.ensures (search rules) (search rules)

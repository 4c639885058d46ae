-- `crc32c_window::register` meets its contract.
-- Assumes nothing.
use Rattle.crc32c_window.proofs.WindowLaws.{lifted-clear, left}
use borrow.Author.Rules.{rules}
use Rattle.crc32c_window.proofs.register.Goals as goal

pub settle-requires : goal.settle-requires
settle-requires c = search (lifted-clear, rules)

pub returns : goal.returns
returns c = search (left, rules) depth 20

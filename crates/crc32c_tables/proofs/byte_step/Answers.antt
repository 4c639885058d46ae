-- `crc32c_tables::byte_step` meets its contract.
-- Assumes nothing.
use Rattle.crc32c_tables.proofs.RegisterLaws.{byte-law}
use borrow.Author.Rules.{rules}
use Rattle.crc32c_tables.proofs.byte_step.Goals as goal

pub returns : goal.returns
returns c = search (byte-law, rules)

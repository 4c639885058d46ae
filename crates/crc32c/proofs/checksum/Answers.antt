-- `crc32c::checksum` meets its contract.
-- Assumes nothing.
use Rattle.crc32c.proofs.Running.{crc-whole}
use borrow.Author.Rules.{rules}
use Rattle.crc32c.proofs.checksum.Goals as goal

pub returns : goal.returns
returns c = crc-whole _ _ _ _ c.begin.ensures c.feed.ensures c.finish.ensures (search rules)

-- `crc32c::unit_checksum_with` meets its contract.
-- Assumes nothing.
use Rattle.crc32c.proofs.Running.{crc-unit}
use borrow.Author.Rules.{rules}
use Rattle.crc32c.proofs.unit_checksum_with.Goals as goal

pub returns : goal.returns
returns c = crc-unit c.args.uuid.now c.args.s.now c.args.object c.args.unit _ _ _ c.begin_unit-c.ensures c.feed.ensures c.finish.ensures (search rules) (search rules)

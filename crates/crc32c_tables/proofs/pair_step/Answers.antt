-- `crc32c_tables::pair_step` meets its contract.
-- Assumes nothing.
use Rattle.words.proofs.NumberLaws.{le-bytes}
use Rattle.crc32c_tables.proofs.RegisterLaws.{pair-law}
use borrow.Author.Rules.{rules}
use Rattle.crc32c_tables.proofs.pair_step.Goals as goal

pub returns : goal.returns
returns c = pair-law c.args.t.now _ c.args.p.now _ _ c.requires (search rules) (search rules) (search rules) c.le32.ensures (le-bytes 4 _ _ c.to_le_bytes-y.ensures)

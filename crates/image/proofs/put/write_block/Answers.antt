-- `image::put::write_block` meets its contract.
-- Assumes nothing.
use Rattle.image.proofs.PutLaws.{block_written}
use borrow.Author.Rules.{rules}
use Rattle.image.proofs.put.write_block.Goals as goal

pub returns : goal.returns
returns c = search (block_written, rules)

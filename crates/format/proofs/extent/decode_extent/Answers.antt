-- `format::extent::decode_extent` meets its contract.
-- Assumes nothing.
use borrow.Author.Rules.{rules}
use Rattle.format.proofs.RecordLaws.{extent-read}
use Rattle.format.proofs.extent.decode_extent.Goals as goal

pub returns : goal.returns
returns c = search (extent-read, rules)

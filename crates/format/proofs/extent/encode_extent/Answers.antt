-- `format::extent::encode_extent` meets its contract.
-- Assumes nothing.
use borrow.Author.Rules.{rules}
use Rattle.format.proofs.RecordLaws.{extent-put}
use Rattle.format.proofs.extent.encode_extent.Goals as goal

pub returns : goal.returns
returns c = search (extent-put, rules)

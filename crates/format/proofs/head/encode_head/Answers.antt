-- `format::head::encode_head` meets its contract.
-- Assumes nothing.
use borrow.Author.Rules.{rules}
use Rattle.rules.specs.Head.{encode_head}
use Rattle.format.proofs.RecordLaws.{head-put}
use Rattle.format.specs.Records.{head_of}
use Rattle.format.proofs.head.encode_head.Goals as goal

pub returns : goal.returns
unfolding encode_head head_of
returns c = let q = rw c.from.ensures at c.put_head.ensures in search (head-put, rules)

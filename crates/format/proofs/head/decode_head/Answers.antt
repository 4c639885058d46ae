-- `format::head::decode_head` meets its contract.
-- Assumes nothing.
use borrow.Author.Rules.{rules}
use Rattle.format.proofs.RecordLaws.{head_read, head-fits}
use Rattle.format.proofs.head.decode_head.Goals as goal

pub returns : goal.returns
returns c = search (head_read, head-fits, rules)

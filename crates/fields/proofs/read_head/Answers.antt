-- `fields::read_head` meets its contract.
-- Assumes nothing.
use Rattle.fields.proofs.FieldLaws.{head_read}
use borrow.Author.Rules.{rules}
use Rattle.fields.proofs.read_head.Goals as goal

pub returns : goal.returns
returns c = search (head_read, rules)

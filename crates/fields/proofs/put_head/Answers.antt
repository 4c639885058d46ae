-- `fields::put_head` meets its contract.
-- Assumes nothing.
use Rattle.fields.proofs.FieldLaws.{head-put}
use borrow.Author.Rules.{rules}
use Rattle.fields.proofs.put_head.Goals as goal

pub returns : goal.returns
returns c = search (head-put, rules)

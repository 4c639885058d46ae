-- `fields::head_of` meets its contract.
-- Assumes nothing.
use Rattle.fields.proofs.FieldLaws.{head-fields}
use borrow.Author.Rules.{rules}
use Rattle.fields.proofs.head_of.Goals as goal

pub returns : goal.returns
returns c = search (head-fields, rules)

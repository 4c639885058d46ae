-- `fields::card_of` meets its contract.
-- Assumes nothing.
use borrow.Author.Rules.{rules}
use Rattle.fields.proofs.FieldLaws.{card-of}
use Rattle.fields.proofs.card_of.Goals as goal

pub returns : goal.returns
returns c = card-of c.args.w (search rules) (search rules)

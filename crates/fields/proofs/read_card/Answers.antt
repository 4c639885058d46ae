-- `fields::read_card` meets its contract.
-- Assumes nothing.
use borrow.Author.Rules.{rules}
use Rattle.fields.proofs.FieldLaws.{card-read}
use Rattle.fields.proofs.read_card.Goals as goal

pub returns : goal.returns
returns c = search (card-read, rules)

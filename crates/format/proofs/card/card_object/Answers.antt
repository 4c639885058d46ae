-- `format::card::card_object` meets its contract.
-- Assumes nothing.
use borrow.Author.Rules.{rules}
use Rattle.format.proofs.CardWords.{object-read}
use Rattle.format.proofs.card.card_object.Goals as goal

pub returns : goal.returns
returns c = object-read _ _ (search rules) c.requires _ c.be64.ensures

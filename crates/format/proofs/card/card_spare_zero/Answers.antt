-- `format::card::card_spare_zero` meets its contract.
-- Assumes nothing.
use borrow.Author.Rules.{rules}
use Rattle.format.proofs.CardWords.{spare-read}
use Rattle.format.proofs.card.card_spare_zero.Goals as goal

pub returns : goal.returns
returns c = spare-read _ _ (search rules) c.requires _ c.be64.ensures

-- `format::card::card_nanoseconds` meets its contract.
-- Assumes nothing.
use borrow.Author.Rules.{rules}
use Rattle.format.proofs.CardWords.{time-read}
use Rattle.format.proofs.card.card_nanoseconds.Goals as goal

pub returns : goal.returns
returns c = time-read _ _ (search rules) c.requires _ c.be64.ensures

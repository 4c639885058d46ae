-- `format::card::card_created_nanoseconds` meets its contract.
-- Assumes nothing.
use borrow.Author.Rules.{rules}
use Rattle.format.proofs.CardWords.{created-read}
use Rattle.format.proofs.card.card_created_nanoseconds.Goals as goal

pub returns : goal.returns
returns c = created-read _ _ (search rules) c.requires _ _ c.be64.ensures c.be64-2.ensures

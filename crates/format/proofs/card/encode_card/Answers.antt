-- `format::card::encode_card` meets its contract.
-- Assumes nothing.
use borrow.Author.Rules.{rules}
use Rattle.rules.specs.Card.{encode_card}
use Rattle.format.specs.Records.{card_of}
use Rattle.format.proofs.card.encode_card.Goals as goal

pub returns : goal.returns
unfolding encode_card card_of
returns c = search rules

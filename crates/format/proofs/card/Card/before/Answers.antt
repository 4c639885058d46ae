-- `format::card::Card::before` meets its contract.
-- Assumes nothing.
use borrow.Author.Rules.{rules}
use Rattle.rules.specs.Card.{card_before}
use Rattle.format.specs.Records.{card_of}
use Rattle.format.proofs.card.Card.before.Goals as goal

pub returns : goal.returns
unfolding card_before card_of
returns c = search rules

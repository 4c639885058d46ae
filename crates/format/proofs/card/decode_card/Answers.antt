-- `format::card::decode_card` meets its contract.
-- Assumes nothing.
use borrow.Author.Rules.{rules}
use Rattle.format.proofs.RecordLaws.{card-read, card-fits}
use Rattle.format.proofs.card.decode_card.Goals as goal

pub returns : goal.returns
returns c = search (card-read, card-fits, rules)

-- `book::find::first_card` meets its contract.
-- Assumes nothing.
use borrow.Author.Rules.{rules}
use Rattle.book.proofs.HalvesLaws.{first-card}
use Rattle.book.proofs.find.first_card.Goals as goal

pub returns : goal.returns
returns c = first-card _ _ _ _ (search rules) c.requires c.halve.ensures.place_value

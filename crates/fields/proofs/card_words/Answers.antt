-- `fields::card_words` meets its contract.
-- Assumes nothing.
use Rattle.fields.proofs.FieldLaws.{card-words}
use Rattle.fields.proofs.card_words.Goals as goal

pub returns : goal.returns
returns c = card-words _ _ _ _ _ _ _ _

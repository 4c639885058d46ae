-- `fields::head_words` meets its contract.
-- Assumes nothing.
use Rattle.fields.proofs.FieldLaws.{head-words}
use Rattle.fields.proofs.head_words.Goals as goal

pub returns : goal.returns
returns c = head-words _ _ _ _ _ _

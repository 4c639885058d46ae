use Rattle.words.proofs.RangeLaws.{copied-part}
use Rattle.words.proofs.range.copy_part.Goals as goal

pub returns : goal.returns
returns c = copied-part _ _ _ _ _ _ c.copy.ensures

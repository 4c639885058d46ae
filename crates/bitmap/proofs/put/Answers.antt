-- `bitmap::put` meets its contract.
-- Assumes nothing.
use Rattle.bitmap.proofs.MapLaws.{put_one}
use borrow.Author.Rules.{rules}
use Rattle.bitmap.proofs.put.Goals as goal

pub returns : goal.returns
returns c = put_one _ _ _ _ c.with_bit.ensures (search rules) (search rules)

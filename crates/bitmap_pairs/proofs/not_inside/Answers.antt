-- `bitmap_pairs::not_inside` meets its contract.
-- Assumes nothing.
use Rattle.bitmap_pairs.proofs.PairLaws.{holds-outside}
use Rattle.bitmap_pairs.proofs.not_inside.Goals as goal

pub returns : goal.returns
returns c = holds-outside _ _ _ _ c.only_word.ensures

-- `bitmap_pairs::only_word` meets its contract.
-- Assumes nothing.
use Rattle.bitmap_pairs.proofs.PairLaws.{holds-only}
use borrow.Author.Rules.{rules}
use Rattle.bitmap_pairs.proofs.only_word.Goals as goal

pub returns : goal.returns
returns c = holds-only _ _ _ _ _ c.le64.ensures c.le64-2.ensures c.le64-2.type_inv (search rules) (search rules)

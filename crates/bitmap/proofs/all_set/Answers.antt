-- `bitmap::all_set` meets its contract.
-- Assumes nothing.
use Rattle.bitmap.proofs.MapLaws.{next-all-set}
use borrow.Author.Rules.{rules}
use Rattle.bitmap.proofs.all_set.Goals as goal

pub returns : goal.returns
returns c = next-all-set _ _ _ _ _ c.next.ensures c.is_none.ensures (search rules)

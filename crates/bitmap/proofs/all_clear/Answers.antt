-- `bitmap::all_clear` meets its contract.
-- Assumes nothing.
use Rattle.bitmap.proofs.MapLaws.{next-all-clear}
use borrow.Author.Rules.{rules}
use Rattle.bitmap.proofs.all_clear.Goals as goal

pub returns : goal.returns
returns c = next-all-clear _ _ _ _ _ c.next.ensures c.is_none.ensures (search rules)

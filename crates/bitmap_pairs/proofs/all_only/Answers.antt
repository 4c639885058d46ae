-- `bitmap_pairs::all_only` meets its contract.
-- Assumes nothing.
use Rattle.bitmap_pairs.proofs.PairLaws.{none_of}
use Rattle.bitmap_pairs.proofs.all_only.Goals as goal

pub returns-then-a-e : goal.returns-then-a-e
returns-then-a-e c = none_of _ _ _ c.if-a-e.true

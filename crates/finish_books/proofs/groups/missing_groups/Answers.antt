-- `finish_books::groups::missing_groups` meets its contract.
-- Assumes nothing.
use Rattle.finish_books.proofs.MissingLaws.{finished-count}
use Rattle.finish_books.proofs.groups.missing_groups.Goals as goal

pub returns : goal.returns
returns c = finished-count _ _ _ _ _ _ c.missing_for-m.ensures

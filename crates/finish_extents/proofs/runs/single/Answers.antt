-- `finish_extents::runs::single` meets its contract.
-- Assumes nothing.
use borrow.Author.Rules.{rules}
use Rattle.finish_extents.proofs.SingleLaws.{single-made}
use Rattle.finish_extents.proofs.runs.single.Goals as goal

pub returns : goal.returns
returns c = search (single-made, rules)

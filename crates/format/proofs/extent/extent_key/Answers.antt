-- `format::extent::extent_key` meets its contract.
-- Assumes nothing.
use borrow.Author.Rules.{rules}
use Rattle.rules.specs.Extent.{extent_key}
use Rattle.format.proofs.extent.extent_key.Goals as goal

pub returns : goal.returns
unfolding extent_key
returns c = search rules

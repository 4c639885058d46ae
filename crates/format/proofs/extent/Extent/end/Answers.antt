-- `format::extent::Extent::end` meets its contract.
-- Assumes nothing.
use borrow.Author.Rules.{rules}
use Rattle.rules.specs.Extent.{extent_end}
use Rattle.format.specs.Records.{extent_of}
use Rattle.format.proofs.extent.Extent.end.Goals as goal

pub returns : goal.returns
unfolding extent_end extent_of
returns c = search rules

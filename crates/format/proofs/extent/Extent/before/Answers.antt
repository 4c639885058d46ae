-- `format::extent::Extent::before` meets its contract.
-- Assumes nothing.
use borrow.Author.Rules.{rules}
use Rattle.rules.specs.Extent.{extent_before}
use Rattle.format.specs.Records.{extent_of}
use Rattle.format.proofs.extent.Extent.before.Goals as goal

pub returns : goal.returns
unfolding extent_before extent_of
returns c = search rules

-- `format::extent::Extent::block_of` meets its contract.
-- Assumes nothing.
use borrow.Author.Rules.{rules}
use Rattle.rules.specs.Extent.{block_of}
use Rattle.format.specs.Records.{extent_of}
use Rattle.format.proofs.extent.Extent.block_of.Goals as goal

pub overflow_sub-result : goal.overflow_sub-result
unfolding block_of extent_of
overflow_sub-result c = search rules

pub overflow_add-result : goal.overflow_add-result
unfolding block_of extent_of
overflow_add-result c = search rules

pub returns : goal.returns
unfolding block_of extent_of
returns c = search rules

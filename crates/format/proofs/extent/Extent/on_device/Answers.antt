-- `format::extent::Extent::on_device` meets its contract.
-- Assumes nothing.
use borrow.Author.Rules.{rules}
use Rattle.format.specs.Records.{extent_of}
use Rattle.format.proofs.extent.Extent.on_device.Goals as goal

pub returns : goal.returns
unfolding extent_of
returns c = search rules

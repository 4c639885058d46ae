-- `format::extent::Extent::device_end` meets its contract.
-- Assumes nothing.
use Rattle.std.proofs.Common.{arith}
use Rattle.rules.specs.Extent.{device_end}
use Rattle.format.specs.Records.{extent_of}
use Rattle.format.proofs.extent.Extent.device_end.Goals as goal

pub returns : goal.returns
unfolding device_end extent_of
returns c = omega arith

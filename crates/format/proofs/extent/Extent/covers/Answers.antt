-- `format::extent::Extent::covers` meets its contract.
-- Assumes nothing.
use Rattle.std.proofs.Common.{arith}
use Rattle.std.proofs.lemmas.Grind.{common_steps}
use Rattle.rules.specs.Extent.{covers, extent_end}
use Rattle.format.specs.Records.{extent_of}
use Rattle.format.proofs.extent.Extent.covers.Goals as goal

pub returns-then-self-block : goal.returns-then-self-block
unfolding covers extent_of extent_end
returns-then-self-block c = grind (arith, common_steps)

pub returns-else-self-block : goal.returns-else-self-block
unfolding covers extent_of extent_end
returns-else-self-block c = grind (arith, common_steps)

use Rattle.std.proofs.Common.{arith}
use Rattle.std.proofs.lemmas.Grind.{common_steps}
use Rattle.rules.specs.Extent.{extent_end, joins}
use Rattle.format.specs.Records.{extent_of}
use Rattle.format.proofs.extent.Extent.joins.Goals as goal

pub returns-then-meets-2 : goal.returns-then-meets-2
unfolding joins extent_of extent_end
returns-then-meets-2 c = grind (arith, common_steps)

pub returns-else-meets-2 : goal.returns-else-meets-2
unfolding joins extent_of extent_end
returns-else-meets-2 c = grind (arith, common_steps)

use Rattle.std.proofs.Common.{arith}
use Rattle.std.proofs.lemmas.Grind.{common_steps}
use Rattle.rules.specs.Extent.{extent_end}
use Rattle.rules.specs.Integrity.{apart}
use Rattle.format.specs.Records.{extent_of}
use Rattle.format.proofs.extent.Extent.apart.Goals as goal

pub returns-then-self-next : goal.returns-then-self-next
unfolding apart extent_of extent_end
returns-then-self-next c = grind (arith, common_steps)

pub returns-else-self-next : goal.returns-else-self-next
unfolding apart extent_of extent_end
returns-else-self-next c = grind (arith, common_steps)

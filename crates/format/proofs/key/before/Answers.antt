use Rattle.std.proofs.Common.{arith}
use Rattle.std.proofs.lemmas.Grind.{common_steps}
use Rattle.rules.specs.Lists.{pair_before}
use Rattle.format.proofs.key.before.Goals as goal

pub returns : goal.returns
unfolding pair_before
returns c = grind (arith, common_steps)

-- `runs::pass_halves` meets its contract: where it is so of no half, no sixteen clear bits begin in them.
-- Assumes nothing.
use Rattle.std.proofs.Common.{refl, arith}
use Rattle.runs.proofs.RunLaws.{halves-passed}
use Rattle.runs.proofs.pass_halves.Goals as goal

pub returns : goal.returns
returns c = halves-passed _ _ _ _ _ _ refl (omega arith) (omega arith) (omega arith) c.any_meets.ensures c.if-any_meets.false

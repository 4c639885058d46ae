-- `runs::starts` meets its contract: two runs of the greater half, four times from one bit on.
-- Assumes nothing.
use Rattle.std.proofs.Common.{refl, arith}
use Rattle.runs.proofs.RunLaws.{starts-four}
use Rattle.runs.proofs.starts.Goals as goal

pub returns : goal.returns
returns c = starts-four _ _ _ _ _ _ (omega arith) (omega arith) refl refl refl refl _ _ _ _ refl refl refl refl

-- `runs::meets` meets its contract: bits from one on, and bits from the lowest set one of the next half on, do not meet.
-- Assumes nothing.
use Rattle.std.proofs.Common.{arith}
use Rattle.runs.proofs.RunLaws.{meets-zero}
use Rattle.runs.proofs.meets.Goals as goal

pub returns : goal.returns
returns c = meets-zero _ _ _ (omega arith) (omega arith) (omega arith) (omega arith)

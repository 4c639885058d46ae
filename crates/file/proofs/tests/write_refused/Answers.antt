-- `file::tests::write_refused` meets its contract.
-- Assumes nothing.
use native.Mathlib.Omega.{arith}
use Rattle.file.proofs.TestLaws.{number_past, number-late, number-none}
use Rattle.file.proofs.tests.write_refused.Goals as goal

pub returns-then-len-offset : goal.returns-then-len-offset
returns-then-len-offset c = number_past _ _ (omega arith)

pub returns-then-time_wrong : goal.returns-then-time_wrong
returns-then-time_wrong c = number-late _ _ (omega arith) _ c.time_wrong.ensures c.if-time_wrong.true

pub returns : goal.returns
returns c = number-none _ _ (omega arith) _ c.time_wrong.ensures c.if-time_wrong.false

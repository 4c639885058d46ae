-- `file::tests::grow_refused` meets its contract.
-- Assumes nothing.
use native.Mathlib.Omega.{arith}
use Rattle.file.proofs.TestLaws.{grow-past, grow-below, grow-same, grow-late, grow-none}
use Rattle.file.proofs.tests.grow_refused.Goals as goal

pub returns-then-size-gt-MOST : goal.returns-then-size-gt-MOST
returns-then-size-gt-MOST c = grow-past _ _ _ (omega arith)

pub returns-then-size-old_size : goal.returns-then-size-old_size
returns-then-size-old_size c = grow-below _ _ _ (omega arith) (omega arith)

pub returns-then-size-old_size-2 : goal.returns-then-size-old_size-2
returns-then-size-old_size-2 c = grow-same _ _ _ (omega arith) (omega arith) c.if-size-old_size-2.true

pub returns-then-time_wrong : goal.returns-then-time_wrong
returns-then-time_wrong c = grow-late _ _ _ (omega arith) (omega arith) c.if-size-old_size-2.false _ c.time_wrong.ensures c.if-time_wrong.true

pub returns : goal.returns
returns c = grow-none _ _ _ (omega arith) (omega arith) c.if-size-old_size-2.false _ c.time_wrong.ensures c.if-time_wrong.false

use Rattle.std.proofs.Common.{arith, rules}
use Rattle.runs.proofs.RunLaws.{word-full, word-run, word_none}
use Rattle.runs.proofs.run_words.Goals as goal

pub loop-p-preserved-then-w : goal.loop-p-preserved-then-w
loop-p-preserved-then-w c = (omega arith, word-full _ _ _ _ _ _ (omega arith) c.loop-p.invariant.1 (omega arith) c.le64-w.ensures (omega arith) (search rules) c.if-w.true)

pub returns-then-m-ne0 : goal.returns-then-m-ne0
returns-then-m-ne0 c = word-run _ _ _ _ _ _ _ _ (omega arith) c.loop-p.invariant.1 (omega arith) c.le64-w.ensures (omega arith) (search rules) c.le64-w.type_inv c.starts-m.ensures c.if-m-ne0.true c.starts-m.type_inv c.first.ensures

pub loop-p-preserved : goal.loop-p-preserved
loop-p-preserved c = (omega arith, word_none _ _ _ _ _ _ _ (omega arith) c.loop-p.invariant.1 (omega arith) c.le64-w.ensures (omega arith) (search rules) c.le64-w.type_inv c.starts-m.ensures c.if-m-ne0.false)

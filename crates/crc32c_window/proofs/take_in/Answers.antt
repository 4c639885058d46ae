use Rattle.crc32c_window.proofs.WindowLaws.{taken_none, taken_more}
use native.Mathlib.Omega.{arith}
use Rattle.crc32c_window.proofs.take_in.Goals as goal

pub loop-i-init : goal.loop-i-init
loop-i-init c = taken_none _ c.args.s.now

pub loop-i-preserved : goal.loop-i-preserved
loop-i-preserved c = taken_more _ _ _ _ _ c.loop-i.invariant c.added.ensures.sum c.added.ensures.oldest_fits (omega arith) c.loop-i-test.true

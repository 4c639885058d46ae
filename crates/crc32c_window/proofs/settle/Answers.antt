use Rattle.crc32c_window.proofs.WindowLaws.{settled-none, settled-more, settled-all}
use native.Mathlib.Omega.{arith}
use borrow.Author.Rules.{rules}
use Rattle.crc32c_window.proofs.settle.Goals as goal

pub loop-j-init : goal.loop-j-init
loop-j-init c = (search rules, settled-none _ c.args.u.now c.requires)

pub loop-j-preserved : goal.loop-j-preserved
loop-j-preserved c = (search rules, settled-more _ _ _ _ c.loop-j.invariant.1 c.added.ensures.sum (search rules))

pub returns : goal.returns
returns c = settled-all _ _ _ c.loop-j.invariant.1 (omega arith) (omega arith) c.loop-j.invariant.0 c.requires

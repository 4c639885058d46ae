use native.Mathlib.Omega.{arith}
use Rattle.probe.proofs.ProbeLaws.{repeated-none, repeated-more, repeated-all}
use borrow.Author.Rules.{rules}
use Rattle.probe.proofs.sangueko_probe_crc32c_repeated.Goals as goal

pub loop-i-init : goal.loop-i-init
loop-i-init c = repeated-none _ _ c.begin-c.ensures

pub loop-i-preserved : goal.loop-i-preserved
loop-i-preserved c = repeated-more _ _ _ _ c.loop-i.invariant c.feed-c.ensures

pub returns : goal.returns
returns c = repeated-all _ _ _ _ _ c.loop-i.invariant (omega arith) c.finish.ensures (search rules)

use Rattle.words.proofs.RangeLaws.{copied-none, copied-more}
use Rattle.words.proofs.range.copy.Goals as goal

pub loop-i-init : goal.loop-i-init
loop-i-init c = copied-none _ c.args.x.now _

pub loop-i-preserved : goal.loop-i-preserved
loop-i-preserved c = copied-more _ _ _ _ _ c.loop-i.invariant c.requires c.loop-i-test.true

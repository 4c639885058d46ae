use Rattle.runs.proofs.RunLaws.{meets-more}
use Rattle.runs.proofs.any_meets.Goals as goal

pub loop-k-preserved : goal.loop-k-preserved
loop-k-preserved c = meets-more _ _ _ _ _ _ _ c.loop-k.invariant c.half.ensures c.half-in-loop-k.ensures c.meets.ensures

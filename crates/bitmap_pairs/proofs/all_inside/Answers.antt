use Rattle.std.proofs.Common.{sym, arith}
use Rattle.bitmap_pairs.proofs.PairLaws.{all_none, failed-more}
use Rattle.bitmap_pairs.proofs.all_inside.Goals as goal

pub loop-k-init : goal.loop-k-init
loop-k-init c = sym (all_none _ _)

pub loop-k-preserved : goal.loop-k-preserved
loop-k-preserved c = failed-more _ _ _ _ _ _ c.loop-k.invariant c.not_inside-failed.ensures (omega arith) (omega arith) c.not_inside-failed.type_inv

use Rattle.std.proofs.Common.{arith}
use Rattle.bitmap_pairs.proofs.DifferenceLaws.{clearing-more, clearing-all}
use Rattle.bitmap_pairs.proofs.difference.clear_where.Goals as goal

pub loop-i-preserved : goal.loop-i-preserved
loop-i-preserved c = clearing-more _ _ _ _ c.loop-i.invariant (omega arith) (c.type_inv.x _).fits

pub returns : goal.returns
returns c = clearing-all _ _ _ _ c.loop-i.invariant (omega arith)

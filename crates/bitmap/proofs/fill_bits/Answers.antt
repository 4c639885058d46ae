use Rattle.bitmap.proofs.MapLaws.{with_none, fill-bit}
use Rattle.std.proofs.Common.{arith}
use Rattle.bitmap.proofs.fill_bits.Goals as goal

pub loop-n-init : goal.loop-n-init
loop-n-init c = with_none _ _ _ (λ k. (c.type_inv.m k).fits)

pub loop-n-preserved : goal.loop-n-preserved
loop-n-preserved c = fill-bit _ _ _ _ _ _ c.loop-n.invariant c.put.ensures (omega arith)

use Rattle.std.proofs.Common.{arith}
use Rattle.bitmap.proofs.MapLaws.{count_none, count_words}
use lib.Count.{ones-le}
use Rattle.bitmap.proofs.count_words.Goals as goal

pub loop-k-init : goal.loop-k-init
loop-k-init c = (omega arith, count_none _ _)

pub loop-k-preserved : goal.loop-k-preserved
loop-k-preserved c = (omega (arith, ones-le 64 c.le64.result c.le64.type_inv), count_words _ _ _ _ _ c.loop-k.invariant.1 c.le64.ensures c.le64.type_inv (omega arith) (λ k. (c.type_inv.m k).fits))

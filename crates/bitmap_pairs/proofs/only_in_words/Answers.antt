use Rattle.std.proofs.Common.{sym, arith}
use Rattle.bitmap_pairs.proofs.PairLaws.{all_none, passed-more}
use Rattle.bitmap_pairs.proofs.only_in_words.Goals as goal

pub loop-k-init : goal.loop-k-init
loop-k-init c = sym (all_none _ _)

pub loop-k-preserved : goal.loop-k-preserved
loop-k-preserved c = passed-more _ _ _ _ _ _ c.loop-k.invariant c.only_word-passed.ensures (omega arith) (omega arith) c.only_word-passed.type_inv

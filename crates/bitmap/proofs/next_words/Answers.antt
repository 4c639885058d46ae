-- `bitmap::next_words` meets its contract: it looks through the odd word, and where the bit is not found through the pairs.
-- Assumes nothing.
use Rattle.bitmap.proofs.MapLaws.{next_else}
use Rattle.std.proofs.Common.{arith, rules}
use Rattle.bitmap.proofs.next_words.Goals as goal

pub returns : goal.returns
returns c = next_else _ _ _ _ _ _ _ _ c.next_word.ensures (omega arith) c.or_else.ensures (λ q. search rules)

-- `bitmap_pairs::clear_behind` meets its contract.
-- Assumes nothing.
use Rattle.std.proofs.Common.{arith, rules}
use Rattle.bitmap_pairs.proofs.PairLaws.{clear_none, clear-last}
use Rattle.bitmap_pairs.proofs.clear_behind.Goals as goal

pub returns-then-s-eq0 : goal.returns-then-s-eq0
returns-then-s-eq0 c = clear_none _ _ (omega arith) (omega arith) (omega arith) (omega arith)

pub returns-else-s-eq0 : goal.returns-else-s-eq0
returns-else-s-eq0 c = clear-last _ _ _ c.le64.ensures (λ z. omega arith) (omega arith) (omega arith) (omega arith) c.le64.type_inv (search rules)

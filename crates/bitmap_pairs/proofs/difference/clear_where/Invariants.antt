-- `bitmap_pairs::difference::clear_where` meets its contract.
-- Assumes nothing.
use Rattle.bitmap_pairs.proofs.DifferenceLaws.{Clearing}
use Rattle.bitmap_pairs.proofs.difference.clear_where.Given as goal

abbrev pub invariant-loop-i : goal.invariant-loop-i
invariant-loop-i l = Clearing l.initial.m l.x l.m l.i

-- `kept::blocks::count_superseded` meets its contract. The invariant: the places passed are counted. Assumes nothing.
use Rattle.kept.proofs.BlocksLaws.{Counting}
use Rattle.kept.proofs.blocks.count_superseded.Given as goal

abbrev pub invariant-loop-i : goal.invariant-loop-i
invariant-loop-i l = Counting l.old l.kept l.n l.i

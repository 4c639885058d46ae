-- `kept::blocks::assign` meets its contract. The invariant: the blocks passed are assigned. Assumes nothing.
use Rattle.kept.proofs.BlocksLaws.{Assigning}
use Rattle.kept.proofs.blocks.assign.Given as goal

abbrev pub invariant-loop-i : goal.invariant-loop-i
invariant-loop-i l = Assigning l.kept l.new l.blocks l.i l.j

-- `probe::allocate::unit` meets its contract: the blocks that are found first lie in the map.
-- Assumes nothing.
use native.Mathlib.Omega.{arith}
use Rattle.allocation.proofs.AnswerLaws.{within_more}
use Rattle.probe.proofs.allocate.unit.Goals as goal

pub mark-requires : goal.mark-requires
mark-requires c = within_more _ _ _ c.found_first-t.ensures.within (omega arith)

pub answer-requires : goal.answer-requires
answer-requires c = within_more _ _ _ c.found_first-t.ensures.within (omega arith)

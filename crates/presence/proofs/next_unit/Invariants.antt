-- `presence::next_unit` meets its contract.
-- Assumes nothing.
use Rattle.presence.proofs.WalkLaws.{Walked, rounds_left}
use Rattle.presence.proofs.next_unit.Given as goal

abbrev pub invariant-loop-unit : goal.invariant-loop-unit
invariant-loop-unit l = Walked l.n l.groups l.object l.present l.initial.unit l.end l.unit l.place

abbrev pub decreases-loop-unit : goal.decreases-loop-unit
decreases-loop-unit l = rounds_left l.n l.groups l.object l.unit l.place

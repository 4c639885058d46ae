-- `kept::units::put_units` meets its contract. The invariant: the units passed are written down. Assumes nothing.
use Rattle.kept.proofs.UnitsLaws.{Putting}
use Rattle.kept.proofs.units.put_units.Given as goal

abbrev pub invariant-loop-unit : goal.invariant-loop-unit
invariant-loop-unit l = Putting l.first l.units l.unit

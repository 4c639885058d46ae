use mathlib.Core.Path.{refl}
use native.Mathlib.Omega.{arith}
use Rattle.kept.proofs.UnitsLaws.{putting-none, putting-more, putting-all}
use Rattle.kept.proofs.units.put_units.Goals as goal

pub loop-unit-init : goal.loop-unit-init
loop-unit-init c = putting-none _ _

pub loop-unit-preserved : goal.loop-unit-preserved
loop-unit-preserved c = putting-more _ _ _ c.loop-unit.invariant (omega arith) (omega arith)

pub returns : goal.returns
returns c = (refl, putting-all _ _ _ _ c.loop-unit.invariant (omega arith))

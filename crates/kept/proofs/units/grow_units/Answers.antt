-- `kept::units::grow_units` meets its contract. Assumes nothing.
use native.Mathlib.Omega.{arith}
use Rattle.kept.proofs.UnitsLaws.{grew_none, grew-tail}
use Rattle.kept.proofs.units.grow_units.Goals as goal

pub returns-then-old_size-eq0 : goal.returns-then-old_size-eq0
returns-then-old_size-eq0 c = record { upper_bound = omega arith; units_after = λ ch after start len is. grew_none ch _ _ _ _ is c.args.units.now c.if-old_size-eq0.true }

pub returns : goal.returns
returns c = record { upper_bound = omega arith; units_after = λ ch after start len is. grew-tail ch _ _ _ _ is c.args.units.now c.if-old_size-eq0.false c.requires }

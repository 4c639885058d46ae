use native.Mathlib.Omega.{arith}
use Rattle.intake_maps.proofs.MapLaws.{first-reserved, none-reserved, none-reserved-to}
use Rattle.intake_maps.proofs.Maps.blocks_mappable.Goals as goal

pub returns-then-a-self : goal.returns-then-a-self
returns-then-a-self c = first-reserved _ _ _ _ _ (omega arith) c.if-a-self.true

pub returns-then-n-a : goal.returns-then-n-a
returns-then-n-a c = none-reserved _ _ _ _ _ _ c.if-a-self.false c.only_in_word.ensures

pub returns-else-n-a : goal.returns-else-n-a
returns-else-n-a c = none-reserved-to _ _ _ _ _ _ c.if-a-self.false c.all_only.ensures

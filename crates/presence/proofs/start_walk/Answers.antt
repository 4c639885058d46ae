-- `presence::start_walk` meets its contract.
-- Assumes nothing.
use mathlib.Core.Path.{refl}
use Rattle.presence.proofs.PlaceLaws.{parted-leading}
use Rattle.presence.proofs.start_walk.Goals as goal

pub returns : goal.returns
returns c = (refl, parted-leading _ _ c.requires _ _ _ (c.first_group.ensures.0 c.requires.order) c.first_group.ensures.1)

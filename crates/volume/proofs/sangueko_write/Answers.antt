-- `volume::sangueko_write` meets its contract.
-- Assumes nothing.
use mathlib.Core.Path.{refl}
use Rattle.volume.proofs.WriteLaws.{write-gives}
use Rattle.volume.proofs.sangueko_write.Goals as goal

pub returns : goal.returns
returns c = write-gives _ _ _ _ _ _ _ _ _ c.write_within.ensures refl

-- `volume::sangueko_write_archive` meets its contract.
-- Assumes nothing.
use mathlib.Core.Path.{refl}
use Rattle.volume.proofs.WriteLaws.{archive-gives}
use Rattle.volume.proofs.sangueko_write_archive.Goals as goal

pub returns : goal.returns
returns c = archive-gives _ _ _ _ _ _ _ _ _ c.write_within.ensures refl

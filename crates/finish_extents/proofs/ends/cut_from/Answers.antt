-- `finish_extents::ends::cut_from` meets its contract.
-- Assumes nothing.
use native.Mathlib.Omega.{arith}
use mathlib.Core.Path.{refl}
use Rattle.finish_extents.proofs.EndLaws.{from_cut}
use Rattle.finish_extents.proofs.ends.cut_from.Goals as goal

pub returns : goal.returns
returns c = from_cut _ _ _ _ _ (omega arith) (omega arith) refl (omega arith) (omega arith)

-- `store::fill::used_per_mille` meets its contract.
-- Assumes nothing.
use Rattle.store.proofs.MapLaws.{map-holds}
use Rattle.bitmap.proofs.MapLaws.{count_most}
use native.Mathlib.Omega.{arith}
use Rattle.store.proofs.fill.used_per_mille.Goals as goal

pub count_set-n-requires : goal.count_set-n-requires
count_set-n-requires c = (omega arith, map-holds _ _ c.requires.0)

pub per_mille-requires : goal.per_mille-requires
per_mille-requires c = omega (arith, count_most _ _ _ _ c.count_set-n.ensures)

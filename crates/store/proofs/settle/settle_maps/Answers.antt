-- `store::settle::settle_maps` meets its contract.
-- Assumes nothing.
use Rattle.store.proofs.MapLaws.{map-holds, map_whole, count-from, less-map, zero-map}
use native.Mathlib.Omega.{arith}
use mathlib.Core.Path.{sym, ◌∙◌}
use Rattle.store.proofs.settle.settle_maps.Goals as goal

pub count_set-count-requires : goal.count_set-count-requires
count_set-count-requires c = (omega arith, map-holds _ _ c.requires.1)

pub clear_where-requires : goal.clear_where-requires
clear_where-requires c = (map_whole _ _ c.requires.0, c.requires.1 ∙ sym c.requires.0)

pub returns : goal.returns
returns c = (count-from _ _ _ c.count_set-count.ensures, less-map _ _ _ _ c.requires.0 c.clear_where.ensures, zero-map _ _ _ c.requires.1 (c.fill.ensures.after (λ y e. e)))

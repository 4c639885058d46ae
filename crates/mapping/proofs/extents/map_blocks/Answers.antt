-- `mapping::extents::map_blocks` meets its contract.
-- Assumes nothing.
use mathlib.Core.Path.{refl}
use native.Mathlib.Omega.{arith}
use Rattle.mapping.proofs.EntryLaws.{mapped-most}
use Rattle.mapping.proofs.HeldLaws.{room-ahead, held-right, stretch-mapped}
use Rattle.mapping.proofs.extents.map_blocks.Goals as goal

pub hold_ahead-ahead-requires : goal.hold_ahead-ahead-requires
hold_ahead-ahead-requires c = record { extents_right = c.requires.extents_right; place_le_n = c.first_from-place.ensures.most; room_ahead = room-ahead c.requires.extents_right _ _ _ _ c.requires.blocks_len_bound refl c.first_from-place.ensures }

pub map_held-requires : goal.map_held-requires
map_held-requires c = (held-right c.requires.extents_right _ _ _ _ c.hold_ahead-ahead.ensures, omega arith)

pub returns : goal.returns
returns c =
    let e = stretch-mapped c.requires.extents_right _ _ _ _ _ _ _ refl c.first_from-place.ensures c.hold_ahead-ahead.ensures c.map_held.auto.blocks c.map_held.ensures in
    (e, mapped-most _ _ _ _ _ _ _ c.requires.extents_right e)

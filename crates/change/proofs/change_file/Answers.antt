-- `change::change_file` meets its contract.
-- Assumes nothing.
use native.Mathlib.Omega.{arith}
use Rattle.rules.proofs.PassLaws.{passes-head}
use Rattle.change.proofs.ChangeLaws.{slots-room, blocks-room, made-room, arrays-room, head-says}
use Rattle.change.proofs.change_file.Goals as goal

pub decode_head-h-requires : goal.decode_head-h-requires
decode_head-h-requires c = passes-head _ c.requires.passes

pub slice_bounds-change_units-end-2 : goal.slice_bounds-change_units-end-2
slice_bounds-change_units-end-2 c = slots-room _ c.requires.units.few

pub slice_bounds-change_units-end-3 : goal.slice_bounds-change_units-end-3
slice_bounds-change_units-end-3 c = blocks-room _ c.requires.units.few

pub slice_bounds-change_units-end-4 : goal.slice_bounds-change_units-end-4
slice_bounds-change_units-end-4 c = blocks-room _ c.requires.units.few

pub slice_bounds-change_units-end-5 : goal.slice_bounds-change_units-end-5
slice_bounds-change_units-end-5 c = blocks-room _ c.requires.units.few

pub change_units-requires : goal.change_units-requires
change_units-requires c =
    let pre = c.requires in
    record { change_ready = pre; head_says = head-says _ _ c.decode_head-h.ensures.0; arrays_each = (arrays-room _ pre.units.few, made-room) }

pub returns-clause-changed : goal.returns-clause-changed
returns-clause-changed c = c.change_units.ensures.changed

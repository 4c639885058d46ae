-- `file::plan::plan_change` meets its contract.
-- Assumes nothing.
use native.Mathlib.Omega.{arith}
use Rattle.mapping.proofs.LookupLaws.{extents-wider}
use Rattle.file.proofs.PlanLaws.{ready-device, ready-map, unit-below, old-blocks, arrays-looked, room_after, change-planned}
use Rattle.file.proofs.plan.plan_change.Goals as goal

pub unit_blocks-requires : goal.unit_blocks-requires
unit_blocks-requires c = let p = c.requires in record { extents_right = extents-wider p.plan_ready.right; by_index = unit-below _ _ _ _ _ _ p.change_fits.size p.plan_room; len = p.plan_room.old_each }

pub unit_checksums-requires : goal.unit_checksums-requires
unit_checksums-requires c = let p = c.requires in record { n_in_bounds = p.plan_ready.places; by_index = unit-below _ _ _ _ _ _ p.change_fits.size p.plan_room; slots_len = p.plan_room.slot_each }

pub plan_units-requires : goal.plan_units-requires
plan_units-requires c =
    let p = c.requires in
    let b = c.unit_blocks in
    let u = c.unit_checksums in
    let a = room_after _ _ _ _ _ _ u.new.slots b.new.old p.plan_room (omega (arith, u.auto.slots)) (omega (arith, b.auto.old)) in
    record { device_fits = ready-device _ _ _ _ _ _ p.plan_ready; used_len_bound = ready-map _ _ _ _ _ _ p.plan_ready; change_fits = p.change_fits; arrays_fit = arrays-looked _ _ _ _ _ _ _ _ _ _ _ p.plan_ready.right a b.ensures u.ensures; allocated_le_most_allocated = p.allocated_le_most_allocated }

pub returns : goal.returns
returns c =
    let p = c.requires in
    let b = c.unit_blocks in
    let u = c.unit_checksums in
    let e = c.plan_units.ensures in
    record { skip_in_bounds = e.skip_in_bounds; blocks_of = old-blocks _ _ _ _ _ _ p.plan_ready.right (omega (arith, b.auto.old, p.plan_room.old_each)) b.ensures; change_planned = λ v d h. change-planned _ _ _ _ _ _ _ _ _ _ _ _ v d h b.ensures u.ensures _ _ _ _ _ _ (e.units_settled v d) }

-- `change::change_units` meets its contract.
-- Assumes nothing.
use mathlib.Core.Path.{refl}
use native.Mathlib.Omega.{arith}
use Rattle.change.proofs.ChangeLaws.{plan-ready, plan-room, arrays-after, change-for, units-refused, carry-ready', change-carried'}
use Rattle.change.proofs.change_units.Goals as goal

pub plan_change-plan-requires : goal.plan_change-plan-requires
plan_change-plan-requires c =
    let pre = c.requires in
    record { plan_ready = plan-ready _ pre.change_ready.passes _ _ pre.head_says.extents pre.head_says.groups; change_fits = pre.change_ready.fits; plan_room = plan-room _ _ _ _ _ _ _ _ pre.change_ready _ _ _ _ pre.arrays_each.0; allocated_le_most_allocated = pre.change_ready.most }

pub returns-then-plan-ne0-clause-changed : goal.returns-then-plan-ne0-clause-changed
returns-then-plan-ne0-clause-changed c =
    let pre = c.requires in
    units-refused _ _ _ _ _ _ _ _ pre.change_ready _ _ _ _ _ pre.head_says _ _ _ _ _ _ (c.plan_change-plan.ensures.change_planned _ _ (change-for _ _ _ _ _ _ _ _ pre.change_ready _ _ _ _ _ pre.head_says)) c.if-plan-ne0.true

pub overflow_mul-from : goal.overflow_mul-from
overflow_mul-from c = omega (arith, c.plan_change-plan.ensures.skip_in_bounds.0, c.requires.change_ready.units.few)

pub offset_bounds-units-skip : goal.offset_bounds-units-skip
offset_bounds-units-skip c = omega (arith, c.plan_change-plan.ensures.skip_in_bounds.0, c.requires.change_ready.units.few)

pub offset_bounds-slots-skip : goal.offset_bounds-slots-skip
offset_bounds-slots-skip c = omega (arith, c.plan_change-plan.ensures.skip_in_bounds.0, c.requires.change_ready.units.few)

pub slice_bounds-carry_change-count-2 : goal.slice_bounds-carry_change-count-2
slice_bounds-carry_change-count-2 c = omega (arith, c.plan_change-plan.ensures.skip_in_bounds.0, c.plan_change-plan.auto.slots, c.requires.arrays_each.0.slot_each)

pub slice_bounds-carry_change-start-2 : goal.slice_bounds-carry_change-start-2
slice_bounds-carry_change-start-2 c = omega (arith, c.plan_change-plan.ensures.skip_in_bounds.0, c.plan_change-plan.auto.slots, c.requires.arrays_each.0.slot_each)

pub offset_bounds-old-from : goal.offset_bounds-old-from
offset_bounds-old-from c = omega (arith, c.plan_change-plan.ensures.skip_in_bounds.0, c.requires.change_ready.units.few)

pub slice_bounds-carry_change-count-3 : goal.slice_bounds-carry_change-count-3
slice_bounds-carry_change-count-3 c = omega (arith, c.plan_change-plan.ensures.skip_in_bounds.0, c.plan_change-plan.auto.old, c.requires.arrays_each.0.old_each)

pub slice_bounds-carry_change-start-3 : goal.slice_bounds-carry_change-start-3
slice_bounds-carry_change-start-3 c = omega (arith, c.plan_change-plan.ensures.skip_in_bounds.0, c.plan_change-plan.auto.old, c.requires.arrays_each.0.old_each)

pub offset_bounds-kept-from : goal.offset_bounds-kept-from
offset_bounds-kept-from c = omega (arith, c.plan_change-plan.ensures.skip_in_bounds.0, c.requires.change_ready.units.few)

pub slice_bounds-carry_change-count-4 : goal.slice_bounds-carry_change-count-4
slice_bounds-carry_change-count-4 c = omega (arith, c.plan_change-plan.ensures.skip_in_bounds.0, c.plan_change-plan.auto.kept, c.requires.arrays_each.0.kept_each)

pub slice_bounds-carry_change-start-4 : goal.slice_bounds-carry_change-start-4
slice_bounds-carry_change-start-4 c = omega (arith, c.plan_change-plan.ensures.skip_in_bounds.0, c.plan_change-plan.auto.kept, c.requires.arrays_each.0.kept_each)

pub offset_bounds-blocks-from : goal.offset_bounds-blocks-from
offset_bounds-blocks-from c = omega (arith, c.plan_change-plan.ensures.skip_in_bounds.0, c.requires.change_ready.units.few)

pub slice_bounds-carry_change-count-5 : goal.slice_bounds-carry_change-count-5
slice_bounds-carry_change-count-5 c = omega (arith, c.plan_change-plan.ensures.skip_in_bounds.0, c.plan_change-plan.auto.blocks, c.requires.arrays_each.0.blocks_each)

pub slice_bounds-carry_change-start-5 : goal.slice_bounds-carry_change-start-5
slice_bounds-carry_change-start-5 c = omega (arith, c.plan_change-plan.ensures.skip_in_bounds.0, c.plan_change-plan.auto.blocks, c.requires.arrays_each.0.blocks_each)

pub carry_change-requires : goal.carry_change-requires
carry_change-requires c =
    let pre = c.requires in
    let plan = c.plan_change-plan in record {
      carry_ready = carry-ready' _ _ _ _ _ _ _ _ pre.change_ready _ _ _ _ _ pre.head_says _ _ _ _ _ _ (c.plan_change-plan.ensures.change_planned _ _ (change-for _ _ _ _ _ _ _ _ pre.change_ready _ _ _ _ _ pre.head_says))
          (arrays-after pre.arrays_each.0 (omega (arith, c.plan_change-plan.auto.slots)) (omega (arith, c.plan_change-plan.auto.old)) (omega (arith, c.plan_change-plan.auto.kept)) (omega (arith, c.plan_change-plan.auto.blocks)))
          plan.ensures.blocks_of plan.ensures.skip_in_bounds.1 c.if-plan-ne0.false _ _ _ _ _ refl refl refl refl refl;
      extent_bytes_in_bounds = pre.arrays_each.1;
    }

pub shape_of-slots : goal.shape_of-slots
shape_of-slots c = omega (arith, c.plan_change-plan.auto.slots)

pub shape_of-old : goal.shape_of-old
shape_of-old c = omega (arith, c.plan_change-plan.auto.old)

pub shape_of-kept : goal.shape_of-kept
shape_of-kept c = omega (arith, c.plan_change-plan.auto.kept)

pub shape_of-blocks : goal.shape_of-blocks
shape_of-blocks c = omega (arith, c.plan_change-plan.auto.blocks)

pub returns-clause-changed : goal.returns-clause-changed
returns-clause-changed c =
    let pre = c.requires in
    let plan = c.plan_change-plan in
    change-carried' _ _ _ _ _ _ _ _ pre.change_ready _ _ _ _ _ pre.head_says _ _ _ _ _ _ (c.plan_change-plan.ensures.change_planned _ _ (change-for _ _ _ _ _ _ _ _ pre.change_ready _ _ _ _ _ pre.head_says))
    (arrays-after pre.arrays_each.0 (omega (arith, c.plan_change-plan.auto.slots)) (omega (arith, c.plan_change-plan.auto.old)) (omega (arith, c.plan_change-plan.auto.kept)) (omega (arith, c.plan_change-plan.auto.blocks)))
    plan.ensures.blocks_of plan.ensures.skip_in_bounds.1 c.if-plan-ne0.false _ _ _ _ _ refl refl refl refl refl _ _ c.carry_change.ensures.carried

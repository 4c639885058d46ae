use mathlib.Core.Path.{refl}
use native.Mathlib.Omega.{arith}
use Rattle.rewrite.proofs.WalkLaws.{walk_none, walk-device, walk-arrays, walk_refused, walk_more, walk-all}
use Rattle.rewrite.proofs.rewrite_units.Goals as goal

pub loop-i-init : goal.loop-i-init
loop-i-init c = walk_none _ _ _ _ _ _ _ _ _ _ _ _ _ _ _ _ c.requires.w_len c.requires.allocated_le_most_allocated refl refl c.no_cursors-cursors.ensures

pub rewrite_at-r-requires : goal.rewrite_at-r-requires
rewrite_at-r-requires c = record { tables = c.requires.tables; w_len = c.loop-i.invariant.window; device_fits = walk-device _ _ _ _ _ _ _ _ _ _ _ _ _ _ _ _ _ _ _ _ _ c.loop-i.invariant c.requires.device_fits; arrays_fit = walk-arrays _ _ _ _ _ _ _ _ _ _ _ _ _ _ _ _ _ _ _ _ _ c.loop-i.invariant _ c.requires.arrays_fit; i_in_bounds = (omega arith, c.loop-i.invariant.count) }

pub shape_of-w-then-r-ne0 : goal.shape_of-w-then-r-ne0
shape_of-w-then-r-ne0 c = omega (arith, c.rewrite_at-r.auto, c.loop-i.invariant.window, c.requires.w_len)

pub returns-then-r-ne0 : goal.returns-then-r-ne0
returns-then-r-ne0 c = record { skip_in_bounds = (omega (arith, c.loop-i.invariant.few, c.loop-i.invariant.bound), c.requires.allocated_le_most_allocated); units_planned = walk_refused _ _ _ _ _ _ _ _ _ _ _ _ _ _ _ _ _ _ _ _ _ c.loop-i.invariant _ _ _ _ c.rewrite_at-r.ensures.unit_planned (omega arith) (omega arith) _ refl }

pub skipped-skip-requires : goal.skipped-skip-requires
skipped-skip-requires c = omega (arith, c.loop-i.invariant.few)

pub loop-i-preserved : goal.loop-i-preserved
loop-i-preserved c = walk_more _ _ _ _ _ _ _ _ _ _ _ _ _ _ _ _ _ _ _ _ _ c.loop-i.invariant _ _ _ _ c.rewrite_at-r.ensures.unit_planned (omega arith) (omega arith) _ (omega (arith, c.rewrite_at-r.auto, c.loop-i.invariant.window)) (omega (arith, c.rewrite_at-r.auto)) c.rewrite_at-r.ensures.changed_at.0 c.rewrite_at-r.ensures.changed_at.1 (omega (arith, c.requires.arrays_fit.kept_each)) (omega (arith, c.requires.arrays_fit.blocks_each)) c.rewrite_at-r.ensures.allocated_le_most_allocated _ c.skipped-skip.ensures.0 c.skipped-skip.ensures.1 c.skipped-skip.ensures.2

pub returns : goal.returns
returns c = record { skip_in_bounds = (omega (arith, c.loop-i.invariant.few, c.loop-i.invariant.bound), c.loop-i.invariant.count); units_planned = walk-all _ _ _ _ _ _ _ _ _ _ _ _ _ _ _ _ _ _ _ _ _ c.loop-i.invariant (omega arith) _ refl refl refl refl }

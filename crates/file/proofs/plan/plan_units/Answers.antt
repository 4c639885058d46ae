-- `file::plan::plan_units` meets its contract.
-- Assumes nothing.
use mathlib.Core.Path.{refl, sym, ap}
use lib.ListN.{length}
use Rattle.file.proofs.PlanLaws.{map-copied, device-copied, copy-settled}
use Rattle.file.proofs.plan.plan_units.Goals as goal

pub slice_bounds-rewrite_units-end-2 : goal.slice_bounds-rewrite_units-end-2
slice_bounds-rewrite_units-end-2 c = sym (ap length (map-copied _ c.args.used.now _ c.copy_part.ensures))

pub rewrite_units-requires : goal.rewrite_units-requires
rewrite_units-requires c =
    let p = c.requires in
    record { tables = c.tables-t.ensures; w_len = refl; device_fits = device-copied _ _ _ _ (map-copied _ _ _ c.copy_part.ensures) p.device_fits; arrays_fit = p.arrays_fit; allocated_le_most_allocated = p.allocated_le_most_allocated }

pub returns : goal.returns
returns c =
    let e = c.rewrite_units.ensures in
    record { skip_in_bounds = e.skip_in_bounds; units_settled = λ v d h. copy-settled _ v d _ _ _ _ _ _ _ _ _ _ _ _ _ _ _ (map-copied _ _ _ c.copy_part.ensures) (e.units_planned v d) h }

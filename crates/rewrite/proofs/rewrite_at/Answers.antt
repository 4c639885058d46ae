-- `rewrite::rewrite_at` meets its contract.
-- Assumes nothing.
use native.Mathlib.Omega.{arith}
use Rattle.rewrite.proofs.SliceLaws.{lent_length, lent-blocks, put-apart, put-planned}
use Rattle.rewrite.proofs.rewrite_at.Goals as goal

pub rewrite_unit-requires : goal.rewrite_unit-requires
rewrite_unit-requires c = record { tables = c.requires.tables; w_len = c.requires.w_len; device_fits = c.requires.device_fits; unit_bytes_bound = (c.requires.arrays_fit.begins c.args.i, c.requires.arrays_fit.slot_most c.args.i, c.requires.i_in_bounds.1); len = (lent_length _ c.args.i (omega (arith, c.requires.i_in_bounds.0, c.requires.arrays_fit.old_each)), lent_length _ c.args.i (omega (arith, c.requires.i_in_bounds.0, c.requires.arrays_fit.kept_each)), lent_length _ c.args.i (omega (arith, c.requires.i_in_bounds.0, c.requires.arrays_fit.blocks_each))); blocks_of = lent-blocks _ c.args.i _ c.requires.arrays_fit.old_most }

pub returns : goal.returns
returns c = record { allocated_le_most_allocated = c.rewrite_unit.ensures.allocated_le_most_allocated; changed_at = put-apart _ _ _ _ _ _ _ _ c.args.i _ _ _ _ _ _ _ c.rewrite_unit.ensures.unit_planned c.args.kept.now c.args.blocks.now (omega (arith, c.requires.i_in_bounds.0, c.requires.arrays_fit.kept_each)) (omega (arith, c.rewrite_unit.auto, lent_length c.args.kept.now c.args.i (omega (arith, c.requires.i_in_bounds.0, c.requires.arrays_fit.kept_each)))) (omega (arith, c.requires.i_in_bounds.0, c.requires.arrays_fit.blocks_each)) (omega (arith, c.rewrite_unit.auto, lent_length c.args.blocks.now c.args.i (omega (arith, c.requires.i_in_bounds.0, c.requires.arrays_fit.blocks_each)))); unit_planned = put-planned _ _ _ _ _ _ _ _ c.args.i _ _ _ _ _ _ _ c.rewrite_unit.ensures.unit_planned c.args.kept.now c.args.blocks.now (omega (arith, c.requires.i_in_bounds.0, c.requires.arrays_fit.kept_each)) (omega (arith, c.rewrite_unit.auto, lent_length c.args.kept.now c.args.i (omega (arith, c.requires.i_in_bounds.0, c.requires.arrays_fit.kept_each)))) (omega (arith, c.requires.i_in_bounds.0, c.requires.arrays_fit.blocks_each)) (omega (arith, c.rewrite_unit.auto, lent_length c.args.blocks.now c.args.i (omega (arith, c.requires.i_in_bounds.0, c.requires.arrays_fit.blocks_each)))) }

-- `finish_units::write_at` meets its contract. Assumes nothing.
use native.Mathlib.Omega.{arith}
use Rattle.finish_units.proofs.CarryLaws.{parts-fit, written_at}
use Rattle.finish_units.proofs.write_at.Goals as goal

pub unit_blocks-requires : goal.unit_blocks-requires
unit_blocks-requires c =
    let pre = c.requires in
    omega (arith, pre.units_fit.begins _ pre.j_in_bounds, c.args.change.fits.size)

pub write_unit-requires : goal.write_unit-requires
write_unit-requires c =
    let pre = c.requires in
    let fits = pre.units_fit in
    record { tables = pre.tables; written = pre.written; unit_bytes_bound = fits.begins _ pre.j_in_bounds; buffer_len = pre.buffer_len; len = (parts-fit _ _ _ _ _ _ _ fits _ _ pre.j_in_bounds c.unit_blocks.ensures.0 c.unit_blocks.ensures.1).0; inside = (parts-fit _ _ _ _ _ _ _ fits _ _ pre.j_in_bounds c.unit_blocks.ensures.0 c.unit_blocks.ensures.1).1.0; kept_len = (parts-fit _ _ _ _ _ _ _ fits _ _ pre.j_in_bounds c.unit_blocks.ensures.0 c.unit_blocks.ensures.1).1.1.0; blocks_len_bound = (parts-fit _ _ _ _ _ _ _ fits _ _ pre.j_in_bounds c.unit_blocks.ensures.0 c.unit_blocks.ensures.1).1.1.1.0; by_index = (parts-fit _ _ _ _ _ _ _ fits _ _ pre.j_in_bounds c.unit_blocks.ensures.0 c.unit_blocks.ensures.1).1.1.1.1 }

pub returns : goal.returns
returns c =
    let pre = c.requires in
    λ ch is d. written_at _ _ _ _ _ _ _ pre.units_fit _ _ pre.j_in_bounds c.unit_blocks.ensures.0 ch _ _ _ _ (c.write_unit.ensures ch is d)

-- `carry::carry_change` meets its contract.
-- Assumes nothing.
use mathlib.Core.Path.{refl}
use native.Mathlib.Omega.{arith}
use Rattle.format.proofs.RefusalLaws.{refusal-positive}
use Rattle.carry.proofs.CarryLaws.{each-begins, flat-taken, extents-asked, groups-asked, out-asked, change-refused, change-carried}
use Rattle.carry.proofs.carry_change.Goals as goal

pub flat_blocks-flat-requires : goal.flat_blocks-flat-requires
flat_blocks-flat-requires c =
    let r = c.requires.carry_ready in
    record { new_size_le_most_size = (r.fits.size, r.few); by_index = each-begins r }

pub slice_bounds-fit_change-end : goal.slice_bounds-fit_change-end
slice_bounds-fit_change-end c = flat-taken c.requires.carry_ready _ c.flat_blocks-flat.ensures

pub fit_change-requires : goal.fit_change-requires
fit_change-requires c =
    let p = c.requires in
    let f = c.flat_blocks-flat.ensures in
    record { extents_right = extents-asked p.carry_ready _ f; g_in_bounds = groups-asked p.carry_ready; extent_bytes_in_bounds = p.extent_bytes_in_bounds }

pub returns-in-Err-clause-carried : goal.returns-in-Err-clause-carried
returns-in-Err-clause-carried c =
    λ limit d p k y.
    rw c.number.ensures (change-refused c.requires.carry_ready _ c.flat_blocks-flat.ensures c.in-Err.ensures y (λ z. omega (arith, refusal-positive c.in-Err.r, z)))

pub carry_out-requires : goal.carry_out-requires
carry_out-requires c =
    let p = c.requires in
    record { change_fits = (out-asked p.carry_ready _ c.flat_blocks-flat.ensures c.in-Ok.ensures refl (omega (arith, p.extent_bytes_in_bounds, c.fit_change.auto.made))).0; units_fit = (out-asked p.carry_ready _ c.flat_blocks-flat.ensures c.in-Ok.ensures refl (omega (arith, p.extent_bytes_in_bounds, c.fit_change.auto.made))).1.0; groups_right = (out-asked p.carry_ready _ c.flat_blocks-flat.ensures c.in-Ok.ensures refl (omega (arith, p.extent_bytes_in_bounds, c.fit_change.auto.made))).1.1.0; room_for = (out-asked p.carry_ready _ c.flat_blocks-flat.ensures c.in-Ok.ensures refl (omega (arith, p.extent_bytes_in_bounds, c.fit_change.auto.made))).1.1.1.0; new_inside = (out-asked p.carry_ready _ c.flat_blocks-flat.ensures c.in-Ok.ensures refl (omega (arith, p.extent_bytes_in_bounds, c.fit_change.auto.made))).1.1.1.1.0; whole_book = (out-asked p.carry_ready _ c.flat_blocks-flat.ensures c.in-Ok.ensures refl (omega (arith, p.extent_bytes_in_bounds, c.fit_change.auto.made))).1.1.1.1.1.0; count_in_bounds = (out-asked p.carry_ready _ c.flat_blocks-flat.ensures c.in-Ok.ensures refl (omega (arith, p.extent_bytes_in_bounds, c.fit_change.auto.made))).1.1.1.1.1.1.0; count_in_bounds_2 = (out-asked p.carry_ready _ c.flat_blocks-flat.ensures c.in-Ok.ensures refl (omega (arith, p.extent_bytes_in_bounds, c.fit_change.auto.made))).1.1.1.1.1.1.1.0; cards_right = (out-asked p.carry_ready _ c.flat_blocks-flat.ensures c.in-Ok.ensures refl (omega (arith, p.extent_bytes_in_bounds, c.fit_change.auto.made))).1.1.1.1.1.1.1.1.0; new_size_bound = (out-asked p.carry_ready _ c.flat_blocks-flat.ensures c.in-Ok.ensures refl (omega (arith, p.extent_bytes_in_bounds, c.fit_change.auto.made))).1.1.1.1.1.1.1.1.1.0; head_len = (out-asked p.carry_ready _ c.flat_blocks-flat.ensures c.in-Ok.ensures refl (omega (arith, p.extent_bytes_in_bounds, c.fit_change.auto.made))).1.1.1.1.1.1.1.1.1.1 }

pub returns-clause-carried : goal.returns-clause-carried
returns-clause-carried c =
    λ limit d p k y.
    change-carried c.requires.carry_ready _ c.flat_blocks-flat.ensures c.in-Ok.ensures y refl c.carry_out.ensures.store_left

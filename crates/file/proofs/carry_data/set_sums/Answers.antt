-- `file::carry_data::set_sums` meets its contract.
-- Assumes nothing.
use mathlib.Core.Path.{sym}
use lib.Seq.{length-take-le}
use Rattle.file.proofs.carry_data.set_sums.Goals as goal

pub slice_bounds-finish_groups-end : goal.slice_bounds-finish_groups-end
slice_bounds-finish_groups-end c = sym (length-take-le _ _ c.requires.units_in_bounds)

pub finish_groups-requires : goal.finish_groups-requires
finish_groups-requires c =
    let pre = c.requires in
    record { groups_right = pre.groups_right.0; units_right = (pre.groups_right.1, sym (length-take-le _ _ pre.units_in_bounds)); groups_in_bounds = pre.room_for.fits _ (sym (length-take-le _ _ pre.units_in_bounds)) }

pub returns : goal.returns
returns c = λ rs e s. c.finish_groups.ensures rs e (sym s)

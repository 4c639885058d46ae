-- `file::carry_data::carry_data` meets its contract.
-- Assumes nothing.
use borrow.Author.Rules.{rules}
use Rattle.file.proofs.DataLaws.{laid-numbers}
use Rattle.file.proofs.carry_data.carry_data.Goals as goal

pub write_units-requires : goal.write_units-requires
write_units-requires c =
    let pre = c.requires in
    record { tables = c.tables-t.ensures; change_fits = pre.change_fits; units_fit = pre.units_fit; units_in_bounds = pre.units_fit.few }

pub set_sums-requires : goal.set_sums-requires
set_sums-requires c =
    let pre = c.requires in
    record { groups_right = pre.groups_right; room_for = pre.room_for; units_in_bounds = search (pre.units_fit.few, rules) }

pub returns : goal.returns
returns c = record { by_index = λ limit v d h. (c.write_units.ensures limit v d h).image_is; by_index_2 = λ limit v d h. c.set_sums.ensures _ (laid-numbers limit v d _ _) (c.write_units.ensures limit v d h).sums }

-- `finish_units::write_unit` meets its contract. Assumes nothing.
use native.Mathlib.Omega.{arith}
use Rattle.finish_units.proofs.UnitLaws.{taken-most, unit-written}
use Rattle.finish_units.proofs.write_unit.Goals as goal

pub place_unit-from-requires : goal.place_unit-from-requires
place_unit-from-requires c =
    let pre = c.requires in
    record { written = pre.written; unit_bytes_bound = pre.unit_bytes_bound; buffer_len = pre.buffer_len; len = pre.len; inside = pre.inside; covered_value = c.covers_new-covered.ensures }

pub unit_bytes-part-requires : goal.unit_bytes-part-requires
unit_bytes-part-requires c = record { n_in_bounds = λ e. omega (arith, (c.place_unit-from.ensures.value e).1, c.valid_length-n.ensures.0); n_in_bounds_2 = λ e. omega (arith, c.place_unit-from.auto.buffer, c.requires.buffer_len, c.valid_length-n.ensures.1) }

pub write_part-requires : goal.write_part-requires
write_part-requires c =
    let pre = c.requires in
    record { tables = pre.tables; bytes_len_bound = taken-most _ _ _ _ _ _ c.valid_length-n.ensures.1 c.unit_bytes-part.ensures; kept_len = pre.kept_len; blocks_len_bound = pre.blocks_len_bound; by_index = pre.by_index }

pub returns : goal.returns
returns c =
    let pre = c.requires in
    λ ch is d. unit-written ch _ _ _ _ _ _ _ _ _ _ _ _ _ (rw pre.written at is) (rw pre.written at c.args.change.fits) pre.unit_bytes_bound d (c.covers_new-covered.ensures ch _ is) c.valid_length-n.ensures.0 c.place_unit-from.ensures.value
    (λ e. c.place_unit-from.ensures.buffer_after e ch is d) c.unit_bytes-part.ensures _ _ _ _ _ _ c.write_part.ensures.value c.write_part.ensures.image_after

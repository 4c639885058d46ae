-- `finish_units::assemble_unit` meets its contract. Assumes nothing.
use mathlib.Core.Path.{refl, sym, ◌∙◌}
use native.Mathlib.Omega.{arith}
use lib.ListN.{length-take, length-drop}
use borrow.Author.Tests.{not-false}
use Rattle.finish_units.proofs.UnitLaws.{held_fits, part-within, assembled-apart, assembled-touched}
use mathlib.Core.Bool.{not}
use mathlib.Core.Path.{ap}
use Rattle.finish_units.proofs.assemble_unit.Goals as goal

pub assemble-requires : goal.assemble-requires
assemble-requires c =
    let pre = c.requires in
    let held = held_fits _ _ _ _ c.args.change.fits _ _ _ c.held_bytes-held.ensures in
    record { buffer_len = pre.buffer_len; len = pre.len; held_le_valid = omega (arith, held, c.valid_length-valid.ensures.0); valid_le_unit_bytes = c.valid_length-valid.ensures.1; written_bound = omega arith; inside = pre.inside }

pub returns-then-not-touches : goal.returns-then-not-touches
returns-then-not-touches c =
    λ ch is d. assembled-apart ch _ _ _ _ _ _ _ _ _ _ is.new (c.touches.ensures.value_2 ch _ _ is) (ap not c.if-not-touches.true) (c.held_bytes-held.ensures ch _ is)
    c.valid_length-valid.ensures.0 refl c.assemble.ensures

pub written_part-p-requires : goal.written_part-p-requires
written_part-p-requires c =
    let pre = c.requires in
    record { len_bound = omega (arith, pre.unit_bytes_bound, c.args.change.fits.size); unit_bytes_value = sym c.touches.ensures.value ∙ not-false _ (ap not c.if-not-touches.false) }

pub assemble-requires-2 : goal.assemble-requires-2
assemble-requires-2 c =
    let pre = c.requires in
    let held = held_fits _ _ _ _ c.args.change.fits _ _ _ c.held_bytes-held.ensures in
    let fits = part-within _ _ _ _ c.args.change.fits _ _ _ c.touches.ensures.value_2 (ap not c.if-not-touches.false) c.written_part-p.ensures.placed in record { buffer_len = pre.buffer_len; len = pre.len; held_le_valid = omega (arith, held, c.valid_length-valid.ensures.0); valid_le_unit_bytes = c.valid_length-valid.ensures.1; written_bound = rw (length-take, length-drop) (omega (arith, fits, c.valid_length-valid.ensures.0)); inside = pre.inside }

pub returns : goal.returns
returns c =
    λ ch is d. assembled-touched ch _ _ _ _ _ _ _ _ _ _ _ is.new d (c.touches.ensures.value_2 ch _ _ is) (ap not c.if-not-touches.false) (c.held_bytes-held.ensures ch _ is)
    c.valid_length-valid.ensures.0 (c.written_part-p.ensures.placed ch _ _ is) c.assemble-2.ensures

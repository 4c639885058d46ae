-- `finish_units::place_unit` meets its contract. Assumes nothing.
use mathlib.Core.Path.{refl}
use native.Mathlib.Omega.{arith}
use Rattle.rules.proofs.ListLaws.{clash}
use Rattle.finish_units.proofs.UnitLaws.{covers-means}
use Rattle.finish_units.proofs.place_unit.Goals as goal

pub overflow_sub-result : goal.overflow_sub-result
overflow_sub-result c = omega (arith, covers-means _ _ _ _ _ c.requires.covered_value c.if-covered.true)

pub returns-then-covered : goal.returns-then-covered
returns-then-covered c =
    let covers = covers-means _ _ _ _ _ c.requires.covered_value c.if-covered.true in
    record { value = λ e. (refl, omega (arith, c.requires.written, covers.0, covers.1)); buffer_after = λ e. absurd (clash e c.if-covered.true) }

pub assemble_unit-requires : goal.assemble_unit-requires
assemble_unit-requires c =
    let pre = c.requires in
    record { written = pre.written; unit_bytes_bound = pre.unit_bytes_bound; buffer_len = pre.buffer_len; len = pre.len; inside = pre.inside }

pub returns : goal.returns
returns c = record { value = λ e. absurd (clash c.if-covered.false e); buffer_after = λ e. c.assemble_unit.ensures }

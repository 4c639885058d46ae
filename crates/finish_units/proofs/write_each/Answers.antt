use mathlib.Core.Path.{refl, ◌∙◌}
use native.Mathlib.Omega.{arith}
use Rattle.finish_units.proofs.CarryLaws.{fit_same, writing-none, writing_more, writing-all}
use Rattle.finish_units.proofs.write_each.Goals as goal

pub loop-j-init : goal.loop-j-init
loop-j-init c = (writing-none _ _ _ _ _ _ _ _ _ _ _ _ _, refl)

pub write_at-requires : goal.write_at-requires
write_at-requires c =
    let pre = c.requires in
    let inv = c.loop-j.invariant in
    record { tables = pre.tables; written = pre.written; buffer_len = omega (arith, inv.1, pre.buffer_len); units_fit = fit_same _ _ _ _ _ _ _ _ inv.0.long pre.units_fit; j_in_bounds = omega (arith, c.loop-j-test.true) }

pub offset_bounds-crcs-j : goal.offset_bounds-crcs-j
offset_bounds-crcs-j c = omega (arith, c.requires.units_fit.few, c.loop-j-test.true)

pub bounds-crcs-j : goal.bounds-crcs-j
bounds-crcs-j c = omega (arith, c.requires.units_in_bounds, c.loop-j-test.true, c.loop-j.invariant.0.wide)

pub loop-j-preserved : goal.loop-j-preserved
loop-j-preserved c =
    let pre = c.requires in
    let inv = c.loop-j.invariant in
    (writing_more _ _ _ _ _ _ _ _ _ _ _ _ _ _ _ _ _ _ pre.units_fit inv.0 c.loop-j-test.true pre.units_in_bounds c.write_at.auto.image (λ ch is d. c.write_at.ensures ch (rw (← pre.written) at is) d), c.write_at.auto.buffer ∙ inv.1)

pub returns : goal.returns
returns c = writing-all _ _ _ _ _ _ _ _ _ _ _ _ _ _ _ _ c.loop-j.invariant.0 (omega arith)

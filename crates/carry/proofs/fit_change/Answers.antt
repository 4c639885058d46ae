-- `carry::fit_change` meets its contract.
-- Assumes nothing.
use native.Mathlib.Omega.{arith}
use Rattle.carry.proofs.CarryLaws.{fit_none}
use Rattle.carry.proofs.fit_change.Goals as goal

pub returns-then-units-eq0 : goal.returns-then-units-eq0
returns-then-units-eq0 c =
    let p = c.requires in
    fit_none _ _ _ _ _ _ _ _ c.if-units-eq0.true p.extents_right.0 p.g_in_bounds.0

pub fit_books-requires : goal.fit_books-requires
fit_books-requires c =
    let p = c.requires in
    record { extents_right = (p.extents_right.0, p.extents_right.1 (omega (arith, c.if-units-eq0.false))); g_in_bounds = p.g_in_bounds; extent_bytes_in_bounds = p.extent_bytes_in_bounds }

pub returns : goal.returns
returns c = c.fit_books.ensures

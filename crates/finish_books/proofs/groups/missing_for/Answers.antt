-- `finish_books::groups::missing_for` meets its contract.
-- Assumes nothing.
use Rattle.finish_books.proofs.MissingLaws.{near, missing-units, missing-nothing}
use borrow.Author.Rules.{rules}
use Rattle.finish_books.proofs.groups.missing_for.Goals as goal

pub returns-then-units-eq0 : goal.returns-then-units-eq0
returns-then-units-eq0 c = missing-nothing _ _ _ c.if-units-eq0.true

pub offset_bounds-units-s : goal.offset_bounds-units-s
offset_bounds-units-s c = let f = c.stretch-s.ensures _ _ c.requires.units_right in search rules

pub bounds-units-s : goal.bounds-units-s
bounds-units-s c = let f = c.stretch-s.ensures _ _ c.requires.units_right in search rules

pub missing_of-requires : goal.missing_of-requires
missing_of-requires c = record { n_in_bounds = c.requires.n_in_bounds; a_le_b = near _ _ _ _ c.requires.units_right.few (c.stretch-s.ensures _ _ c.requires.units_right) }

pub returns : goal.returns
returns c = missing-units _ _ _ _ c.requires.units_right.few (c.stretch-s.ensures _ _ c.requires.units_right) _ _ (c.type_inv.units _).fits c.missing_of.ensures

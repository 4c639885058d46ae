-- `finish_books::maps::mark_new` meets its contract.
-- Assumes nothing.
use Rattle.finish_books.proofs.MapLaws.{marked-yes, marked-no}
use native.Mathlib.Omega.{arith}
use borrow.Author.Tests.{eq-eqb, ne_eqb}
use Rattle.finish_books.proofs.maps.mark_new.Goals as goal

pub set-requires : goal.set-requires
set-requires c = c.requires.new_inside.each _ (omega arith) c.if-kept-f-eq0.true

pub returns-then-kept-f-eq0 : goal.returns-then-kept-f-eq0
returns-then-kept-f-eq0 c = marked-yes _ _ _ _ (eq-eqb _ _ c.if-kept-f-eq0.true) c.set.ensures

pub returns-else-kept-f-eq0 : goal.returns-else-kept-f-eq0
returns-else-kept-f-eq0 c = marked-no _ _ _ (ne_eqb _ _ c.if-kept-f-eq0.false)

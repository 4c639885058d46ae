-- `finish_books::groups::add` meets its contract.
-- Assumes nothing.
use Rattle.finish_books.proofs.StepLaws.{count_none, count_is, first-gone, gone-two}
use native.Mathlib.Omega.{arith}
use Rattle.finish_books.proofs.groups.add.Goals as goal

pub returns-then-count-eq0 : goal.returns-then-count-eq0
returns-then-count-eq0 c = count_none _ _ _ _ _ c.requires.groups_right c.if-count-eq0.true

pub add_one-requires : goal.add_one-requires
add_one-requires c = record { groups_right = c.requires.groups_right; groups_value = first-gone _ _ _ _ c.requires.gone.0 (omega arith); n_in_bounds = omega arith }

pub returns-then-count-eq1 : goal.returns-then-count-eq1
returns-then-count-eq1 c = count_is _ _ _ _ _ _ _ _ c.if-count-eq1.true c.add_one.ensures

pub add_two-requires : goal.add_two-requires
add_two-requires c = let k = gone-two _ _ _ _ c.requires.gone.0 c.if-count-eq0.false c.if-count-eq1.false in record { groups_right = c.requires.groups_right; groups_value = (first-gone _ _ _ _ c.requires.gone.0 (omega arith), c.requires.gone.0.each 1 (omega arith), omega arith); n_in_bounds = omega arith }

pub returns : goal.returns
returns c = count_is _ _ _ _ _ _ _ _ (gone-two _ _ _ _ c.requires.gone.0 c.if-count-eq0.false c.if-count-eq1.false) c.add_two.ensures

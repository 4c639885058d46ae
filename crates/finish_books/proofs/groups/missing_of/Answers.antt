-- `finish_books::groups::missing_of` meets its contract.
-- Assumes nothing.
use Rattle.finish_books.proofs.MissingLaws.{absent-most, both_one, second-alone, first-missing}
use native.Mathlib.Omega.{arith}
use borrow.Author.Rules.{rules}
use Rattle.finish_books.proofs.groups.missing_of.Goals as goal

pub returns-then-a-b : goal.returns-then-a-b
returns-then-a-b c = both_one _ _ _ _ _ c.if-a-b.true c.absent-first.ensures

pub returns-then-first-eq0 : goal.returns-then-first-eq0
returns-then-first-eq0 c = second-alone _ _ _ _ _ _ (omega arith) c.absent-first.ensures c.if-first-eq0.true c.absent-second.ensures

pub overflow_add-result : goal.overflow_add-result
overflow_add-result c = let l = absent-most _ _ c.absent-second.ensures in search rules

pub returns : goal.returns
returns c = first-missing _ _ _ _ _ _ c.if-a-b.false (omega arith) (omega arith) c.absent-first.ensures c.if-first-eq0.false c.absent-second.ensures

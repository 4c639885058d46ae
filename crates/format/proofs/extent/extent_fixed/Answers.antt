-- `format::extent::extent_fixed` meets its contract.
-- Assumes nothing.
use borrow.Author.Rules.{rules}
use Rattle.format.proofs.RecordLaws.{fixed-tag, fixed-zeros}
use Rattle.format.proofs.extent.extent_fixed.Goals as goal

pub returns-then-s-at-eq-EXTENT_TAG : goal.returns-then-s-at-eq-EXTENT_TAG
returns-then-s-at-eq-EXTENT_TAG c = search (fixed-zeros, rules)

pub returns-else-s-at-eq-EXTENT_TAG : goal.returns-else-s-at-eq-EXTENT_TAG
returns-else-s-at-eq-EXTENT_TAG c = search (fixed-tag, rules)

-- `store::fill::per_mille` meets its contract.
-- Assumes nothing.
use Rattle.store.proofs.FillLaws.{none-usable, some-usable}
use borrow.Author.Rules.{rules}
use Rattle.store.proofs.fill.per_mille.Goals as goal

pub returns-then-usable-eq0 : goal.returns-then-usable-eq0
returns-then-usable-eq0 c = search (none-usable, rules)

pub returns : goal.returns
returns c = search (some-usable, rules)

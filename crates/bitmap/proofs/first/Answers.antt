-- `bitmap::first` meets its contract.
-- Assumes nothing.
use Rattle.bitmap.proofs.BitLaws.{first-set-asked, first-clear-asked}
use borrow.Author.Rules.{rules}
use Rattle.bitmap.proofs.first.Goals as goal

pub returns-then-value : goal.returns-then-value
returns-then-value c = search (first-set-asked, rules)

pub returns : goal.returns
returns c = search (first-clear-asked, rules)

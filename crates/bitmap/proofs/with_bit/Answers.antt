-- `bitmap::with_bit` meets its contract.
-- Assumes nothing.
use Rattle.bitmap.proofs.BitLaws.{set-asked, clear-asked}
use borrow.Author.Rules.{rules}
use Rattle.bitmap.proofs.with_bit.Goals as goal

pub returns-then-value : goal.returns-then-value
returns-then-value c = search (set-asked, rules)

pub returns : goal.returns
returns c = search (clear-asked, rules)

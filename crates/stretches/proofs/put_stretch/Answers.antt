-- `stretches::put_stretch` meets its contract.
-- Assumes nothing.
use borrow.Author.Rules.{rules}
use Rattle.stretches.proofs.ListLaws.{pair_put}
use Rattle.stretches.proofs.put_stretch.Goals as goal

pub returns : goal.returns
returns c = search (pair_put, rules)

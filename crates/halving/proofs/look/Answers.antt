-- `halving::look` meets its contract.
-- Assumes nothing.
use borrow.Author.Rules.{rules}
use Rattle.halving.proofs.KeyLaws.{look-other, look-not-same, look-same, look-number, look-key}
use Rattle.halving.proofs.look.Goals as goal

pub returns-then-a-object : goal.returns-then-a-object
returns-then-a-object c = search (look-other, look-not-same, rules)

pub returns-then-b-number : goal.returns-then-b-number
returns-then-b-number c = search (look-number, look-same, rules)

pub returns : goal.returns
returns c = search (look-key, look-same, rules)

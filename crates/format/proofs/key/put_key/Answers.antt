-- `format::key::put_key` meets its contract.
-- Assumes nothing.
use borrow.Author.Rules.{rules}
use Rattle.words.proofs.RangeLaws.{set-patch}
use Rattle.format.proofs.RecordLaws.{key-put}
use Rattle.format.proofs.key.put_key.Goals as goal

pub returns : goal.returns
returns c = search (key-put, set-patch, rules)

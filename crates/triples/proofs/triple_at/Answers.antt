-- `triples::triple_at` meets its contract.
-- Assumes nothing.
use Rattle.triples.proofs.TripleLaws.{triple-read}
use borrow.Author.Rules.{rules}
use Rattle.triples.proofs.triple_at.Goals as goal

pub returns : goal.returns
returns c = search (triple-read, rules)

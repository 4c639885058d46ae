use Rattle.std.proofs.Common.{rules}
use Rattle.triples.proofs.TripleLaws.{exceeds}
use Rattle.triples.proofs.lengths_exceed.Goals as goal

pub returns : goal.returns
returns c = search (exceeds, rules)

use Rattle.std.proofs.Common.{rules}
use Rattle.triples.proofs.TripleLaws.{differs}
use Rattle.triples.proofs.lengths_differ.Goals as goal

pub returns : goal.returns
returns c = search (differs, rules)

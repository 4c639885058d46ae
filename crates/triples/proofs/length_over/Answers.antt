use Rattle.std.proofs.Common.{refl, rules}
use Rattle.triples.proofs.TripleLaws.{over-start, over-found, over-more, over-end}
use Rattle.triples.proofs.length_over.Goals as goal

pub loop-i-init : goal.loop-i-init
loop-i-init c = search (over-start, rules)

pub returns-then-t-gt-MOST_TRANSFER : goal.returns-then-t-gt-MOST_TRANSFER
returns-then-t-gt-MOST_TRANSFER c = search (over-found, refl, rules)

pub loop-i-preserved : goal.loop-i-preserved
loop-i-preserved c = search (over-more, refl, rules)

pub returns : goal.returns
returns c = search (over-end, refl, rules)

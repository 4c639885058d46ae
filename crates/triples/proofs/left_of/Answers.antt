use Rattle.std.proofs.Common.{rules}
use Rattle.triples.proofs.TripleLaws.{left-start, left-more, past_room, none-behind}
use Rattle.triples.proofs.left_of.Goals as goal

pub loop-i-init : goal.loop-i-init
loop-i-init c = search (left-start, rules)

pub returns-then-left-t : goal.returns-then-left-t
returns-then-left-t c = search (past_room, rules)

pub loop-i-preserved : goal.loop-i-preserved
loop-i-preserved c = search (left-more, rules)

pub returns : goal.returns
returns c = search (none-behind, rules)

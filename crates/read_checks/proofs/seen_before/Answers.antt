use Rattle.read_checks.proofs.NumberLaws.{seen_none, seen_more, seen_here}
use borrow.Author.Rules.{rules}
use Rattle.read_checks.proofs.seen_before.Goals as goal

pub loop-j-init : goal.loop-j-init
loop-j-init c = search (seen_none, rules)

pub returns-then-in_read : goal.returns-then-in_read
returns-then-in_read c = search (seen_here, rules)

pub loop-j-preserved : goal.loop-j-preserved
loop-j-preserved c = search (seen_more, rules)

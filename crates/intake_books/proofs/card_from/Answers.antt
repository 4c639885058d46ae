use borrow.Author.Rules.{rules}
use Rattle.intake_books.proofs.FileLaws.{under_none, under_more, from-here, from_end}
use Rattle.intake_books.proofs.card_from.Goals as goal

pub loop-i-init : goal.loop-i-init
loop-i-init c = search (under_none, rules)

pub returns-then-object-card_object : goal.returns-then-object-card_object
returns-then-object-card_object c = search (from-here, rules)

pub loop-i-preserved : goal.loop-i-preserved
loop-i-preserved c = search (under_more, rules)

pub returns : goal.returns
returns c = search (from_end, rules)

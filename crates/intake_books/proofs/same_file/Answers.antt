use Rattle.intake_books.proofs.FileLaws.{within_none, within_more, same_here, same_end}
use borrow.Author.Rules.{rules}
use Rattle.intake_books.proofs.same_file.Goals as goal

pub loop-i-init : goal.loop-i-init
loop-i-init c = search (within_none, rules)

pub returns-then-e-object : goal.returns-then-e-object
returns-then-e-object c = search (same_here, rules)

pub returns-then-not-ends_by : goal.returns-then-not-ends_by
returns-then-not-ends_by c = search (same_here, rules)

pub loop-i-preserved : goal.loop-i-preserved
loop-i-preserved c = search (within_more, rules)

pub returns : goal.returns
returns c = search (same_end, rules)

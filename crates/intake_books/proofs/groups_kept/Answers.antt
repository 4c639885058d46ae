use borrow.Author.Rules.{rules}
use Rattle.intake_books.proofs.WalkLaws.{kept-none, kept_more}
use Rattle.intake_books.proofs.BookRules.{groups-not, groups-done}
use Rattle.intake_books.proofs.groups_kept.Goals as goal

pub loop-i-init : goal.loop-i-init
loop-i-init c = search (kept-none, rules)

pub returns-then-not-group_step : goal.returns-then-not-group_step
returns-then-not-group_step c = search (groups-not, rules)

pub loop-i-preserved : goal.loop-i-preserved
loop-i-preserved c = search (kept_more, rules)

pub returns : goal.returns
returns c = search (groups-done, rules)

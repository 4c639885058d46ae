use borrow.Author.Rules.{rules}
use Rattle.intake_books.proofs.WalkLaws.{kept-none, kept_more}
use Rattle.intake_books.proofs.BookRules.{cards-not, cards-done}
use Rattle.intake_books.proofs.cards_kept.Goals as goal

pub loop-i-init : goal.loop-i-init
loop-i-init c = search (kept-none, rules)

pub returns-then-not-card_step : goal.returns-then-not-card_step
returns-then-not-card_step c = search (cards-not, rules)

pub loop-i-preserved : goal.loop-i-preserved
loop-i-preserved c = search (kept_more, rules)

pub returns : goal.returns
returns c = search (cards-done, rules)

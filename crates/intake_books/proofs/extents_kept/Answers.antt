use borrow.Author.Rules.{rules}
use Rattle.book.proofs.OrderLaws.{extent-first, extent-next}
use Rattle.intake_books.proofs.WalkLaws.{kept_more}
use Rattle.intake_books.proofs.BookRules.{extents-none, extents-first-not, extents-first, extents-not, extents-done}
use Rattle.intake_books.proofs.extents_kept.Goals as goal

pub returns-then-n-eq0 : goal.returns-then-n-eq0
returns-then-n-eq0 c = search (extents-none, rules)

pub returns-then-not-extent_right : goal.returns-then-not-extent_right
returns-then-not-extent_right c = search (extents-first-not, rules)

pub loop-i-init : goal.loop-i-init
loop-i-init c = search (extents-first, extent-first, rules)

pub returns-then-not-extent_step : goal.returns-then-not-extent_step
returns-then-not-extent_step c = search (extents-not, rules)

pub loop-i-preserved : goal.loop-i-preserved
loop-i-preserved c = search (kept_more, extent-next, rules)

pub returns : goal.returns
returns c = search (extents-done, rules)

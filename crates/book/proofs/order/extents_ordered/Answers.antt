use borrow.Author.Rules.{rules}
use Rattle.book.proofs.OrderLaws.{follow-none, follows-empty, extents-more, extents-not, extents-all, extent-first, extent-next}
use Rattle.book.proofs.order.extents_ordered.Goals as goal

pub returns-then-n-eq0 : goal.returns-then-n-eq0
returns-then-n-eq0 c = search (follows-empty, rules)

pub loop-i-init : goal.loop-i-init
loop-i-init c = search (follow-none, extent-first, rules)

pub returns-then-not-extent_follows : goal.returns-then-not-extent_follows
returns-then-not-extent_follows c = search (extents-not, rules)

pub loop-i-preserved : goal.loop-i-preserved
loop-i-preserved c = search (extents-more, extent-next, rules)

pub returns : goal.returns
returns c = search (extents-all, rules)

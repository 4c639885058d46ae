-- `book::order::zero_from` meets its contract.
-- Assumes nothing.
use Rattle.std.proofs.Common.{◌≡◌, ◌∙◌, true, false, rules}
use Rattle.std.proofs.lemmas.Iterator.{cases_from_all, YieldsList-from_slice}
use borrow.Author.Tests.{tests}
use Rattle.book.proofs.OrderLaws.{zero_stretch, zero-rest, zero-not, zero-behind}
use Rattle.book.proofs.order.zero_from.Goals as goal

pub returns-then-all : goal.returns-then-all
returns-then-all c =
    zero-rest _ _ _ c.as_chunks.ensures.front _
    (cases_from_all _ _ _ (λ x. zero_stretch x ≡ true) (λ x. zero_stretch x ≡ false) c.all.ensures.ran (YieldsList-from_slice _ c.iter.ensures.rest) (λ x q k. search (rules, tests)) (λ x q k. search (rules, tests)))
    _ _ c.as_chunks.ensures.back c.if-all.true c.is_zero.ensures
    ∙ zero-behind c.args.s.now c.args.used

pub returns-else-all : goal.returns-else-all
returns-else-all c =
    zero-not _ _ _ c.as_chunks.ensures.front _
    (cases_from_all _ _ _ (λ x. zero_stretch x ≡ true) (λ x. zero_stretch x ≡ false) c.all.ensures.ran (YieldsList-from_slice _ c.iter.ensures.rest) (λ x q k. search (rules, tests)) (λ x q k. search (rules, tests)))
    c.if-all.false
    ∙ zero-behind c.args.s.now c.args.used

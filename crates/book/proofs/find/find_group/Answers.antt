-- `book::find::find_group` meets its contract.
-- Assumes nothing.
use Rattle.std.proofs.Common.{◌≡◌, true, false, rules}
use Rattle.std.proofs.lemmas.Iterator.{first_from_Range}
use borrow.Author.Tests.{tests}
use Rattle.rules.specs.Group.{group_bytes, decode_group}
use Rattle.book.specs.Places.{record_at, group_is}
use Rattle.book.proofs.SearchLaws.{found-first}
use Rattle.book.proofs.find.find_group.Goals as goal

pub returns : goal.returns
returns c =
    found-first _ _ _ _ _ _
    (first_from_Range _ _ _ _ (λ i. group_is c.args.object c.args.number (record_at decode_group group_bytes c.args.s.now i) ≡ true) (λ i. group_is c.args.object c.args.number (record_at decode_group group_bytes c.args.s.now i) ≡ false) c.find.ensures.ran
    (λ x q k. search (rules, tests)) (λ x q k. search (rules, tests)))

-- `book::find::find_card` meets its contract.
-- Assumes nothing.
use Rattle.std.proofs.Common.{◌≡◌, true, false, rules}
use Rattle.std.proofs.lemmas.Iterator.{first_from_Range}
use borrow.Author.Tests.{tests}
use Rattle.rules.specs.Card.{card_bytes, decode_card}
use Rattle.book.specs.Places.{record_at, card_is}
use Rattle.book.proofs.SearchLaws.{found-first}
use Rattle.book.proofs.find.find_card.Goals as goal

pub returns : goal.returns
returns c =
    found-first _ _ _ _ _ _
    (first_from_Range _ _ _ _ (λ i. card_is c.args.object (record_at decode_card card_bytes c.args.s.now i) ≡ true) (λ i. card_is c.args.object (record_at decode_card card_bytes c.args.s.now i) ≡ false) c.find.ensures.ran
    (λ x q k. search (rules, tests)) (λ x q k. search (rules, tests)))

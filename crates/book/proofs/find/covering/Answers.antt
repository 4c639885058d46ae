-- `book::find::covering` meets its contract.
-- Assumes nothing.
use Rattle.std.proofs.Common.{◌≡◌, true, false, rules}
use Rattle.std.proofs.lemmas.Iterator.{first_from_Range}
use borrow.Author.Tests.{tests}
use Rattle.rules.specs.Extent.{extent_bytes, decode_extent, covers}
use Rattle.book.specs.Places.{record_at}
use Rattle.book.proofs.SearchLaws.{found-first}
use Rattle.book.proofs.find.covering.Goals as goal

pub returns : goal.returns
returns c =
    found-first _ _ _ _ _ _
    (first_from_Range _ _ _ _ (λ i. covers c.args.object c.args.block (record_at decode_extent extent_bytes c.args.s.now i) ≡ true) (λ i. covers c.args.object c.args.block (record_at decode_extent extent_bytes c.args.s.now i) ≡ false) c.find.ensures.ran
    (λ x q k. search (rules, tests)) (λ x q k. search (rules, tests)))

-- `intake_books::cards_kept` meets its contract.
-- Assumes nothing.
use Rattle.rules.specs.Card.{card_bytes, decode_card, card_before}
use Rattle.intake_books.proofs.WalkLaws.{Kept}
use Rattle.intake_books.specs.BookTests.{card_right}
use Rattle.intake_books.proofs.cards_kept.Given as goal

abbrev pub invariant-loop-i : goal.invariant-loop-i
invariant-loop-i l = Kept card_right card_before decode_card card_bytes l.s l.i

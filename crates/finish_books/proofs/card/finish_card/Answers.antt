-- `finish_books::card::finish_card` meets its contract.
-- Assumes nothing.
use native.Mathlib.Omega.{arith}
use borrow.Author.Rules.{rules}
use Rattle.finish_books.proofs.CardLaws.{card-found, card-not-nothing, card-written}
use Rattle.finish_books.proofs.card.finish_card.Goals as goal

pub change_card-requires : goal.change_card-requires
change_card-requires c =
    let l = card-found _ _ _ _ _ c.find_card-found.ensures c.in-Some.is in
    record { card_bytes_in_bounds = omega arith; size_bound = c.requires.size_bound }

pub returns-in-Some : goal.returns-in-Some
returns-in-Some c =
    let l = card-found _ _ _ _ _ c.find_card-found.ensures c.in-Some.is in
    let p = c.requires in
    card-written _ _ _ p.size_bound.0 p.size_bound.1 p.size_bound.2 p.size_bound.3 _ _ _ _ _ p.cards_right l.0 l.1 (search rules) c.change_card.ensures

pub returns-in_default : goal.returns-in_default
returns-in_default c = absurd (card-not-nothing _ _ _ _ c.find_card-found.ensures c.in_default.is c.requires.cards_value)

-- `finish_books::card::change_card` meets its contract.
-- Assumes nothing.
use native.Mathlib.Omega.{arith}
use Rattle.finish_books.proofs.CardLaws.{change-put, changed-fits}
use Rattle.finish_books.proofs.card.change_card.Goals as goal

pub encode_card-requires : goal.encode_card-requires
encode_card-requires c = let p = c.requires in record { card_bytes_in_bounds = omega arith; card_fits = changed-fits _ _ _ p.size_bound.0 p.size_bound.1 p.size_bound.2 p.size_bound.3 _ _ _ c.decode_card-c.ensures.0 c.changed-d.ensures }

pub returns : goal.returns
returns c = change-put _ _ _ _ _ _ _ _ c.decode_card-c.ensures.0 c.changed-d.ensures c.encode_card.ensures

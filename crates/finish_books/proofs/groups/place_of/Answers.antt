-- `finish_books::groups::place_of` meets its contract.
-- Assumes nothing.
use Rattle.finish_books.proofs.StepLaws.{place_kept}
use Rattle.finish_books.proofs.MissingLaws.{group-found, group-not-nothing}
use Rattle.finish_books.proofs.groups.place_of.Goals as goal

pub returns-then-place-n : goal.returns-then-place-n
returns-then-place-n c = place_kept _ _ _ _ _ _ c.requires.place_known c.if-wanted-number.true c.if-place-n.true

pub returns-in-Some : goal.returns-in-Some
returns-in-Some c = group-found _ _ _ _ _ _ c.find_group.ensures c.in-Some.is

pub returns-in-None : goal.returns-in-None
returns-in-None c = absurd (group-not-nothing _ _ _ _ _ c.find_group.ensures c.in-None.is c.requires.groups_value)

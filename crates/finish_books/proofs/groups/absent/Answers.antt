-- `finish_books::groups::absent` meets its contract.
-- Assumes nothing.
use Rattle.finish_books.proofs.MissingLaws.{absent-no, absent-yes}
use Rattle.finish_books.proofs.groups.absent.Goals as goal

pub returns-in-Some : goal.returns-in-Some
returns-in-Some c = absent-no _ _ _ _ _ _ c.find_group-found.ensures c.in-Some.is

pub returns : goal.returns
returns c = absent-yes _ _ _ _ _ c.find_group-found.ensures c.in_default.is

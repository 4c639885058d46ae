-- `sharing::look_and_mark` meets its contract.
-- Assumes nothing.
use Rattle.sharing.proofs.SharingLaws.{look-found, look-marks}
use borrow.Author.Rules.{rules}
use Rattle.sharing.proofs.look_and_mark.Goals as goal

pub returns-then-not-all_clear : goal.returns-then-not-all_clear
returns-then-not-all_clear c = search (look-found, rules)

pub returns : goal.returns
returns c = search (look-marks, rules)

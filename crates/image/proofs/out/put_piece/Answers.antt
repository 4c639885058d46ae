-- `image::out::put_piece` meets its contract.
-- Assumes nothing.
use Rattle.image.proofs.OutLaws.{piece-zeros, piece-mapped}
use borrow.Author.Rules.{rules}
use Rattle.image.proofs.out.put_piece.Goals as goal

pub returns-then-entry-eq0 : goal.returns-then-entry-eq0
returns-then-entry-eq0 c = search (piece-zeros, rules)

pub returns-else-entry-eq0 : goal.returns-else-entry-eq0
returns-else-entry-eq0 c = search (piece-mapped, rules)

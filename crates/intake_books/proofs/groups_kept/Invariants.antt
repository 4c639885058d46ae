-- `intake_books::groups_kept` meets its contract.
-- Assumes nothing.
use Rattle.rules.specs.Group.{group_bytes, decode_group, group_before}
use Rattle.intake_books.proofs.WalkLaws.{Kept}
use Rattle.intake_books.specs.BookTests.{group_right}
use Rattle.intake_books.proofs.groups_kept.Given as goal

abbrev pub invariant-loop-i : goal.invariant-loop-i
invariant-loop-i l = Kept group_right group_before decode_group group_bytes l.s l.i

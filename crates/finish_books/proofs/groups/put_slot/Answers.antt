-- `finish_books::groups::put_slot` meets its contract.
-- Assumes nothing.
use Rattle.finish_books.proofs.SlotLaws.{slot-length, slot-put}
use native.Mathlib.Omega.{arith}
use lib.ListN.{length-set}
use mathlib.Core.Path.{refl}
use borrow.Author.Rules.{rules}
use Rattle.finish_books.proofs.groups.put_slot.Goals as goal

pub put_le32-requires : goal.put_le32-requires
put_le32-requires c = simp length-set (omega arith)

pub shape_of-groups : goal.shape_of-groups
shape_of-groups c = slot-length c.args.groups.now _ _ _ _ _ c.put_le32.ensures (omega arith)

pub returns : goal.returns
returns c = slot-put _ _ _ _ (omega arith) (search rules) c.requires.groups_value _ _ (omega arith) refl c.put_le32.ensures

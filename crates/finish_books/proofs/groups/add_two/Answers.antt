-- `finish_books::groups::add_two` meets its contract.
-- Assumes nothing.
use Rattle.finish_books.proofs.AddLaws.{two-added}
use native.Mathlib.Omega.{arith}
use Rattle.finish_books.proofs.groups.add_two.Goals as goal

pub returns : goal.returns
returns c = two-added _ _ _ _ _ _ c.requires.groups_right (omega arith) c.first_group-i.ensures _ _ c.group_key.ensures c.group_key-2.ensures (omega arith) c.requires.groups_value.0 c.requires.groups_value.1 c.requires.n_in_bounds c.splice_records.ensures

-- `finish_books::groups::add_one` meets its contract.
-- Assumes nothing.
use Rattle.finish_books.proofs.AddLaws.{one-added}
use native.Mathlib.Omega.{arith}
use Rattle.finish_books.proofs.groups.add_one.Goals as goal

pub returns : goal.returns
returns c = one-added _ _ _ _ _ _ c.requires.groups_right (omega arith) c.first_group-i.ensures _ c.group_key.ensures (omega arith) c.requires.groups_value c.requires.n_in_bounds c.splice_records.ensures

-- `finish_extents::ends::push_rest` meets its contract.
-- Assumes nothing.
use native.Mathlib.Omega.{arith}
use borrow.Author.Rules.{rules}
use Rattle.finish_extents.proofs.EndLaws.{rest-there, rest-cut, rest_some}
use Rattle.finish_extents.proofs.ends.push_rest.Goals as goal

pub overflow_sub-j : goal.overflow_sub-j
overflow_sub-j c = search (rest-there, rules)

pub decode_extent-e-requires : goal.decode_extent-e-requires
decode_extent-e-requires c = omega (arith, rest-there _ _ _ _ c.requires.j_value.1, c.requires.extents_right.0.places)

pub cut_from-requires : goal.cut_from-requires
cut_from-requires c = record { logical_le_block = (rest-cut _ _ _ _ _ _ c.requires.extents_right.0 c.requires.extents_right.1 c.requires.j_value.0 c.requires.j_value.1 c.decode_extent-e.ensures).0; count_bound = (rest-cut _ _ _ _ _ _ c.requires.extents_right.0 c.requires.extents_right.1 c.requires.j_value.0 c.requires.j_value.1 c.decode_extent-e.ensures).1 }

pub returns : goal.returns
returns c = search (rest_some, rules)

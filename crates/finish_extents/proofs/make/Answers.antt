-- `finish_extents::make` meets its contract.
-- Assumes nothing.
use native.Mathlib.Omega.{arith}
use Rattle.finish_extents.proofs.ExchangeLaws.{planned-small, made_all}
use Rattle.finish_extents.proofs.make.Goals as goal

pub push_blocks-all-requires : goal.push_blocks-all-requires
push_blocks-all-requires c = record { blocks_len_bound = c.requires.extents_right.1.fit; small = planned-small _ _ _ _ c.requires.extents_right.1; blocks_in_bounds = omega (arith, c.requires.extents_right.1.fit, c.requires.extents_right.1.few) }

pub returns : goal.returns
returns c = record { count_bound = (omega (arith, c.requires.extents_right.1.fit, c.requires.extents_right.1.few), c.push_right.ensures.count_bound.1, c.push_right.ensures.count_bound.2); finished = made_all _ _ _ _ _ _ _ _ _ _ _ _ _ _ _ _ c.requires.extents_right.0 c.requires.extents_right.1 c.requires.first_value.0 c.requires.first_value.1 c.requires.i_value.0 c.requires.i_value.1 c.push_left-left.ensures.1 c.push_blocks-all.ensures.1 c.push_right.ensures.closes }

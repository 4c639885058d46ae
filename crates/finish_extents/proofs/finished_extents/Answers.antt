-- `finish_extents::finished_extents` meets its contract.
-- Assumes nothing.
use native.Mathlib.Omega.{arith}
use mathlib.Core.Path.{refl}
use Rattle.finish_extents.proofs.ExchangeLaws.{planned-small, starts-before, exchanged}
use Rattle.finish_extents.proofs.finished_extents.Goals as goal

pub overflow_mul-first : goal.overflow_mul-first
overflow_mul-first c = omega (arith, planned-small _ _ _ _ c.requires.extents_right.1 0)

pub make-requires : goal.make-requires
make-requires c = record { extents_right = c.requires.extents_right; first_value = (refl, refl, c.first_extent-i.ensures.1, c.first_extent-j.ensures.1); i_value = (c.first_extent-i.ensures.0 c.requires.extents_right.0.order, c.first_extent-j.ensures.0 c.requires.extents_right.0.order); extent_bytes_in_bounds = c.requires.extent_bytes_in_bounds }

pub exchange_from-requires : goal.exchange_from-requires
exchange_from-requires c = starts-before _ _ _ _ _ _ _ c.requires.extents_right.1 (c.first_extent-i.ensures.0 c.requires.extents_right.0.order) (c.first_extent-j.ensures.0 c.requires.extents_right.0.order) c.make.ensures.count_bound.1

pub returns : goal.returns
returns c = record { cut_bound = (omega arith, omega arith); finished = exchanged _ _ _ _ _ _ _ _ _ _ _ c.make.ensures.finished c.exchange_from.ensures.0 c.exchange_from.ensures.1 c.exchange_from.ensures.2 }

-- `rewrite::give_blocks` meets its contract. The test for enough blocks is that of refusal 13, for as many are given as there are or as are wanted.
-- Assumes nothing.
use native.Mathlib.Omega.{arith}
use mathlib.Core.Path.{◌≡◌, refl}
use lib.ListN.{length, take}
use lib.Seq.{length-take-le}
use Rattle.rewrite.proofs.GivenLaws.{gives-enough, gives-few}
use Rattle.rewrite.proofs.give_blocks.Goals as goal

pub assign-requires : goal.assign-requires
assign-requires c = let l : length (take c.args.n c.args.kept.now) ≡ c.args.n = length-take-le _ _ (omega arith) in record { n_in_bounds = omega (arith, l, c.requires.n_le_unit_blocks); kept_in_bounds = omega (arith, l, c.wanted-want.ensures.0, c.wanted-want.ensures.1, c.allocate_unit-a.ensures.room.0.places, c.requires.n_le_unit_blocks.0); by_index = λ i l. let b = c.allocate_unit-a.ensures.room.1.each i (omega (arith, l, c.wanted-want.ensures.0)) in omega (arith, b, c.requires.total_le_most_blocks.0) }

pub returns-then-want-t : goal.returns-then-want-t
returns-then-want-t c = let l : length (take c.args.n c.args.kept.now) ≡ c.args.n = length-take-le _ _ (omega arith) in record { count_le_unit_blocks = c.allocate_unit-a.ensures.room.0.fits; by_index = λ used taken k. gives-enough _ _ _ _ _ _ _ _ _ c.allocate_unit-a.result _ c.wanted-want.ensures.0 (c.allocate_unit-a.ensures.by_index used taken k) (c.allocate_unit-a.ensures.by_index_2 used taken k) refl refl refl (omega arith) refl (rw l at c.assign.ensures) }

pub returns : goal.returns
returns c = record { count_le_unit_blocks = c.allocate_unit-a.ensures.room.0.fits; by_index = λ used taken k. gives-few _ _ _ _ _ _ _ _ _ c.allocate_unit-a.result _ c.wanted-want.ensures.0 (c.allocate_unit-a.ensures.by_index used taken k) (c.allocate_unit-a.ensures.by_index_2 used taken k) refl refl refl (omega arith) refl }

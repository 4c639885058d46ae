-- `intake_maps::extent_mappable` meets its contract.
-- Assumes nothing.
use Rattle.format.specs.Records.{extent_of}
use Rattle.intake_maps.proofs.MapLaws.{here-count, here_end, here-test}
use Rattle.intake_maps.proofs.Maps.extent_mappable.Goals as goal

pub blocks_mappable-requires : goal.blocks_mappable-requires
unfolding extent_of
blocks_mappable-requires c = (here-count _ _ _ c.decode_extent-e.ensures _ c.requires.i_value, here_end _ _ _ c.decode_extent-e.ensures _ c.requires.i_value)

pub returns : goal.returns
unfolding extent_of
returns c = here-test _ _ _ c.decode_extent-e.ensures _ _ _ _ c.blocks_mappable.ensures

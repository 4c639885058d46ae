use Rattle.intake_maps.proofs.MapLaws.{sized-paired, sized-from, placed-more}
use Rattle.intake_maps.proofs.maps_broken.Goals as goal

pub invariant_of-maps : goal.invariant_of-maps
invariant_of-maps c = record { paired = sized-paired c.requires.maps_sized }

pub extents_mappable-requires-clause-extents_value : goal.extents_mappable-requires-clause-extents_value
extents_mappable-requires-clause-extents_value c = placed-more _ _ _ (sized-from c.requires.maps_sized) c.requires.extents_value

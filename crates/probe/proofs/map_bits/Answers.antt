use Rattle.probe.proofs.ProbeLaws.{bits-yes, bits-no, bits_inside, counted, cleared}
use borrow.Author.Rules.{rules}
use Rattle.probe.proofs.map_bits.Goals as goal

pub overflow_mul-result : goal.overflow_mul-result
overflow_mul-result c = search (bits-yes, bits-no, bits_inside, counted, cleared, rules)

pub returns-then-map-le-MAP_BYTES : goal.returns-then-map-le-MAP_BYTES
returns-then-map-le-MAP_BYTES c = search (bits-yes, bits-no, bits_inside, counted, cleared, rules)

pub returns-else-map-le-MAP_BYTES : goal.returns-else-map-le-MAP_BYTES
returns-else-map-le-MAP_BYTES c = search (bits-yes, bits-no, bits_inside, counted, cleared, rules)

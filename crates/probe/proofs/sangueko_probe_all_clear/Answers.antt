use Rattle.probe.proofs.ProbeLaws.{bits-yes, bits-no, bits_inside, counted, cleared}
use borrow.Author.Rules.{rules}
use Rattle.probe.proofs.sangueko_probe_all_clear.Goals as goal

pub map_bits-requires : goal.map_bits-requires
map_bits-requires c = search (bits-yes, bits-no, bits_inside, counted, cleared, rules)

pub all_clear-requires : goal.all_clear-requires
all_clear-requires c = search (bits-yes, bits-no, bits_inside, counted, cleared, rules)

pub returns : goal.returns
returns c = search (bits-yes, bits-no, bits_inside, counted, cleared, rules)

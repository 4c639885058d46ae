use borrow.Author.Rules.{rules}
use Rattle.halving.proofs.HalvingLaws.{halving-none, halving-low, halving-high, halving-count, halving-ends, halving-looks, halving-twenty}
use Rattle.halving.proofs.KeyLaws.{reached-at, owned-none, owned-next, owned-in-front, found-some, found-none}
use Rattle.halving.proofs.halve.Goals as goal

pub loop-low-init : goal.loop-low-init
loop-low-init c = search (halving-none, owned-none, rules)

pub overflow_add-rounds : goal.overflow_add-rounds
overflow_add-rounds c = search (halving-count, rules)

pub loop-low-preserved-then-l : goal.loop-low-preserved-then-l
loop-low-preserved-then-l c = search (halving-low, reached-at, owned-next, rules)

pub loop-low-preserved : goal.loop-low-preserved
loop-low-preserved c = search (halving-high, reached-at, rules)

pub overflow_sub-result : goal.overflow_sub-result
overflow_sub-result c = search (owned-in-front, rules)

pub returns-then-same : goal.returns-then-same
returns-then-same c = record { place_value = search (halving-ends, rules); found_value = search (found-some, rules); rounds_value = search (halving-looks, rules); rounds_bound = search (halving-twenty, rules) }

pub returns-else-same : goal.returns-else-same
returns-else-same c = record { place_value = search (halving-ends, rules); found_value = search (found-none, rules); rounds_value = search (halving-looks, rules); rounds_bound = search (halving-twenty, rules) }

use borrow.Author.Rules.{rules}
use Rattle.stretches.proofs.ListLaws.{none_left, found_none, found-one, fewer-left, counted_none, counted-more, counted-all}
use Rattle.stretches.proofs.count_stretches.Goals as goal

pub start_walk-start-requires : goal.start_walk-start-requires
start_walk-start-requires c = c.requires.groups_right

pub loop-unit-init : goal.loop-unit-init
loop-unit-init c = (counted_none _, search rules, λ l. c.start_walk-start.ensures.1)

pub next_stretch-s-requires : goal.next_stretch-s-requires
next_stretch-s-requires c = record { groups_right = c.requires.groups_right; unit_lt_end = search rules; placed = c.loop-unit.invariant.2 c.loop-unit-test.true }

pub returns-then-s-end : goal.returns-then-s-end
returns-then-s-end c = counted-all _ _ _ c.loop-unit.invariant.0 (found_none _ _ _ _ _ c.next_stretch-s.ensures.end_value c.if-s-end.true)

pub loop-unit-smaller : goal.loop-unit-smaller
loop-unit-smaller c = fewer-left _ _ _ (found-one _ _ _ _ _ c.next_stretch-s.ensures.end_value c.if-s-end.false)

pub loop-unit-preserved : goal.loop-unit-preserved
loop-unit-preserved c = (counted-more _ _ _ c.loop-unit.invariant.0 _ _ (found-one _ _ _ _ _ c.next_stretch-s.ensures.end_value c.if-s-end.false), search rules, c.next_stretch-s.ensures.placed_2)

pub returns : goal.returns
returns c = counted-all _ _ _ c.loop-unit.invariant.0 (none_left _ _ _ c.loop-unit-test.false)

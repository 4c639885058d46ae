use borrow.Author.Rules.{rules}
use Rattle.stretches.proofs.ListLaws.{none_left, found_none, found-one, fewer-left, written_none, written_below, written-more, written_all}
use Rattle.stretches.proofs.put_stretches.Goals as goal

pub start_walk-start-requires : goal.start_walk-start-requires
start_walk-start-requires c = c.requires.groups_right

pub loop-unit-init : goal.loop-unit-init
loop-unit-init c = (written_none _ _, search rules, λ l. c.start_walk-start.ensures.1)

pub next_stretch-s-requires : goal.next_stretch-s-requires
next_stretch-s-requires c = record { groups_right = c.requires.groups_right; unit_lt_end = search rules; placed = c.loop-unit.invariant.2 c.loop-unit-test.true }

pub returns-then-s-end : goal.returns-then-s-end
returns-then-s-end c = written_all _ _ _ _ _ c.loop-unit.invariant.0 (found_none _ _ _ _ _ c.next_stretch-s.ensures.end_value c.if-s-end.true)

pub overflow_mul-i : goal.overflow_mul-i
overflow_mul-i c = search (written_below _ _ _ _ _ c.loop-unit.invariant.0 _ _ (found-one _ _ _ _ _ c.next_stretch-s.ensures.end_value c.if-s-end.false), rules)

pub put_stretch-requires : goal.put_stretch-requires
put_stretch-requires c = search (written_below _ _ _ _ _ c.loop-unit.invariant.0 _ _ (found-one _ _ _ _ _ c.next_stretch-s.ensures.end_value c.if-s-end.false), rules)

pub loop-unit-smaller : goal.loop-unit-smaller
loop-unit-smaller c = fewer-left _ _ _ (found-one _ _ _ _ _ c.next_stretch-s.ensures.end_value c.if-s-end.false)

pub loop-unit-preserved : goal.loop-unit-preserved
loop-unit-preserved c = (written-more _ _ _ _ _ c.loop-unit.invariant.0 _ _ (found-one _ _ _ _ _ c.next_stretch-s.ensures.end_value c.if-s-end.false) _ c.requires.end_in_bounds c.put_stretch.ensures, search rules, c.next_stretch-s.ensures.placed_2)

pub returns : goal.returns
returns c = written_all _ _ _ _ _ c.loop-unit.invariant.0 (none_left _ _ _ c.loop-unit-test.false)

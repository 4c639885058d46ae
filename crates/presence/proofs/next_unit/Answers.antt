use native.Mathlib.Omega.{arith}
use borrow.Author.Rules.{rules}
use Rattle.presence.proofs.WalkLaws.{walk-starts, walk_ends, group-within, place-fits, step-found, step-found-placed, step-group, step-hole, step_end, step-jump, rounds-group, rounds-jump}
use mathlib.Core.Bool.{not}
use mathlib.Core.Path.{ap}
use Rattle.presence.proofs.next_unit.Goals as goal

pub loop-unit-init : goal.loop-unit-init
loop-unit-init c = walk-starts _ _ _ _ _ _ _ c.requires.placed

pub next_in_group-unit-requires : goal.next_in_group-unit-requires
next_in_group-unit-requires c = record { group_bytes_in_bounds = group-within _ _ c.requires.groups_right _ _ _ _ _ _ c.requires.unit_le_end.1 c.loop-unit.invariant c.loop-unit-test.true _ c.number_at-number.ensures c.if-number-unit.true; unit_bound = search rules }

pub returns-then-unit-number : goal.returns-then-unit-number
returns-then-unit-number c = record { next_of = step-found _ _ c.requires.groups_right _ _ _ _ _ _ c.requires.unit_le_end.1 c.loop-unit.invariant c.loop-unit-test.true _ c.number_at-number.ensures c.if-number-unit.true _ c.next_in_group-unit.ensures c.if-unit-number.true _ c.least.ensures; placed_2 = step-found-placed _ _ c.requires.groups_right _ _ _ _ _ _ c.requires.unit_le_end.1 c.loop-unit.invariant c.loop-unit-test.true _ c.number_at-number.ensures c.if-number-unit.true _ c.next_in_group-unit.ensures c.if-unit-number.true _ c.least.ensures }

pub overflow_add-place : goal.overflow_add-place
overflow_add-place c = search (place-fits _ _ c.requires.groups_right _ _ _ _ _ _ c.requires.unit_le_end.1 c.loop-unit.invariant c.loop-unit-test.true _ c.number_at-number.ensures c.if-number-unit.true, rules)

pub loop-unit-smaller-then-number-unit : goal.loop-unit-smaller-then-number-unit
loop-unit-smaller-then-number-unit c = rounds-group _ _ _ _ _ _ (place-fits _ _ c.requires.groups_right _ _ _ _ _ _ c.requires.unit_le_end.1 c.loop-unit.invariant c.loop-unit-test.true _ c.number_at-number.ensures c.if-number-unit.true)

pub loop-unit-preserved-then-number-unit : goal.loop-unit-preserved-then-number-unit
loop-unit-preserved-then-number-unit c = step-group _ _ c.requires.groups_right _ _ _ _ _ _ c.requires.unit_le_end.1 c.loop-unit.invariant c.loop-unit-test.true _ c.number_at-number.ensures c.if-number-unit.true _ c.next_in_group-unit.ensures c.if-unit-number.false

pub returns-then-not-present : goal.returns-then-not-present
returns-then-not-present c = record { next_of = step-hole _ _ c.requires.groups_right _ _ _ _ _ _ c.requires.unit_le_end.1 c.loop-unit.invariant c.loop-unit-test.true _ c.number_at-number.ensures c.if-number-unit.false (ap not c.if-not-present.true); placed_2 = c.loop-unit.invariant.placed }

pub returns-then-number-end : goal.returns-then-number-end
returns-then-number-end c = record { next_of = step_end _ _ c.requires.groups_right _ _ _ _ _ _ c.requires.unit_le_end.1 c.loop-unit.invariant c.loop-unit-test.true _ c.number_at-number.ensures c.if-number-unit.false (ap not c.if-not-present.false) c.if-number-end.true; placed_2 = λ k. absurd (omega (arith, k)) }

pub loop-unit-smaller : goal.loop-unit-smaller
loop-unit-smaller c = rounds-jump _ _ _ _ _ _ c.number_at-number.ensures c.if-number-unit.false

pub loop-unit-preserved : goal.loop-unit-preserved
loop-unit-preserved c = step-jump _ _ c.requires.groups_right _ _ _ _ _ _ c.requires.unit_le_end.1 c.loop-unit.invariant c.loop-unit-test.true _ c.number_at-number.ensures c.if-number-unit.false (ap not c.if-not-present.false) c.if-number-end.false

pub returns : goal.returns
returns c = record { next_of = walk_ends _ _ _ _ _ _ _ _ c.requires.unit_le_end.0 c.loop-unit.invariant c.loop-unit-test.false; placed_2 = λ k. absurd (omega (arith, k)) }

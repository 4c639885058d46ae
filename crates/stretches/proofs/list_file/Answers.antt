-- `stretches::list_file` meets its contract.
-- Assumes nothing.
use native.Mathlib.Omega.{arith}
use borrow.Author.Rules.{rules}
use Rattle.format.specs.Refusals.{number_in, count_in, refusal_of}
use Rattle.rules.specs.Refusal.{number_of}
use Rattle.stretches.proofs.ListLaws.{lists-past, lists-short, lists-all, end_is}
use Rattle.stretches.proofs.list_file.Goals as goal

pub returns-then-units-first : goal.returns-then-units-first
unfolding number_in count_in refusal_of number_of
returns-then-units-first c = lists-past _ _ _ _ _ _ c.if-units-first.true

pub count_stretches-count-requires : goal.count_stretches-count-requires
count_stretches-count-requires c = record { groups_right = c.requires; end_bound = search rules }

pub returns-then-count-out : goal.returns-then-count-out
unfolding number_in count_in refusal_of number_of
returns-then-count-out c = lists-short _ _ _ _ _ _ _ _ (end_is _ _ _ _ _ c.min-end.ensures c.units_begun.ensures.0) c.count_stretches-count.ensures c.if-count-out.true

pub put_stretches-requires : goal.put_stretches-requires
put_stretches-requires c = record { groups_right = c.requires; end_bound = search rules; end_in_bounds = omega (arith, c.if-count-out.false, c.count_stretches-count.ensures) }

pub returns : goal.returns
unfolding number_in count_in refusal_of number_of
returns c =
    lists-all _ _ _ _ _ _ _ _ (end_is _ _ _ _ _ c.min-end.ensures c.units_begun.ensures.0) c.count_stretches-count.ensures _
    (search rules) c.if-units-first.false c.if-count-out.false c.put_stretches.ensures

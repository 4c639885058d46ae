-- `volume::sangueko_fresh` meets its contract.
-- Assumes nothing.
use Rattle.rules.specs.Refusal.{number_of}
use Rattle.format.specs.Refusals.{number_in, count_in, refusal_of}
use Rattle.volume.proofs.CallLaws.{fresh-ready, fresh-stopped, fresh-done}
use native.Mathlib.Omega.{arith}
use mathlib.Core.Path.{sym, ◌∙◌}
use Rattle.volume.proofs.sangueko_fresh.Goals as goal

pub returns-then-fresh_length_wrong : goal.returns-then-fresh_length_wrong
unfolding number_in count_in refusal_of number_of
returns-then-fresh_length_wrong c = fresh-stopped _ _ _ (sym c.fresh_length_wrong.ensures ∙ c.if-fresh_length_wrong.true)

pub fresh_maps-requires : goal.fresh_maps-requires
fresh_maps-requires c = let r = fresh-ready _ _ _ (sym c.fresh_length_wrong.ensures ∙ c.if-fresh_length_wrong.false) in (r.used, r.retired, r.room)

pub fresh_head-requires : goal.fresh_head-requires
fresh_head-requires c = let r = fresh-ready _ _ _ (sym c.fresh_length_wrong.ensures ∙ c.if-fresh_length_wrong.false) in (r.head, r.width, omega (arith, r.few), omega (arith, r.few, r.room))

pub returns : goal.returns
unfolding number_in count_in refusal_of number_of
returns c = fresh-done _ _ _ (sym c.fresh_length_wrong.ensures ∙ c.if-fresh_length_wrong.false) _ _ _ _ _ _ c.fresh_head.ensures c.fresh_books.ensures.0 c.fresh_books.ensures.1 c.fresh_books.ensures.2 c.fresh_maps.ensures.0 c.fresh_maps.ensures.1

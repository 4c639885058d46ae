-- `finish_books::maps::mark_gone` meets its contract.
-- Assumes nothing.
use Rattle.finish_books.proofs.MapLaws.{gone-block, marked-yes, marked-no}
use native.Mathlib.Omega.{arith}
use mathlib.Core.Path.{sym, ◌∙◌}
use Rattle.finish_books.proofs.maps.mark_gone.Goals as goal

pub overflow_sub-old : goal.overflow_sub-old
overflow_sub-old c = gone-block _ _ _ _ c.gone.ensures c.if-gone.true

pub set-requires : goal.set-requires
set-requires c = let p = gone-block _ _ _ _ c.gone.ensures c.if-gone.true in omega (arith, c.requires.old_inside.each c.args.f)

pub returns-then-gone : goal.returns-then-gone
returns-then-gone c = marked-yes _ _ _ _ (sym c.gone.ensures ∙ c.if-gone.true) c.set.ensures

pub returns-else-gone : goal.returns-else-gone
returns-else-gone c = marked-no _ _ _ (sym c.gone.ensures ∙ c.if-gone.false)

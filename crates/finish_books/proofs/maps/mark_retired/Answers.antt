use Rattle.finish_books.proofs.MapLaws.{old_inside, retired-none, retired-more, retired-all, marked-map}
use native.Mathlib.Omega.{arith}
use borrow.Author.Rules.{rules}
use Rattle.finish_books.proofs.maps.mark_retired.Goals as goal

pub loop-f-init : goal.loop-f-init
loop-f-init c = (omega arith, retired-none _ c.args.old.now c.args.kept.now (search rules))

pub mark_gone-requires : goal.mark_gone-requires
mark_gone-requires c = record { f_in_bounds = omega arith; old_inside = old_inside _ _ _ _ c.loop-f.invariant.1 c.requires }

pub loop-f-preserved : goal.loop-f-preserved
loop-f-preserved c = (omega arith, retired-more _ _ _ (omega arith) _ _ _ c.loop-f.invariant.1 c.requires c.mark_gone.ensures)

pub shape_of-retired : goal.shape_of-retired
shape_of-retired c = c.loop-f.invariant.1.places

pub returns : goal.returns
returns c = marked-map _ _ _ (retired-all c.args.old.now _ c.loop-f.f _ _ c.loop-f.invariant.1 (omega arith))

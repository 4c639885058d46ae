use Rattle.finish_books.proofs.MapLaws.{new-inside, used-none, used-more, used_all, marked-map}
use native.Mathlib.Omega.{arith}
use borrow.Author.Rules.{rules}
use Rattle.finish_books.proofs.maps.mark_used.Goals as goal

pub loop-f-init : goal.loop-f-init
loop-f-init c = (omega arith, used-none _ c.args.kept.now c.args.blocks.now (search rules))

pub mark_new-requires : goal.mark_new-requires
mark_new-requires c = record { f_in_bounds = (omega arith, c.requires.kept_len); new_inside = new-inside _ _ _ _ _ c.loop-f.invariant.1 c.requires.new_inside }

pub loop-f-preserved : goal.loop-f-preserved
loop-f-preserved c = (omega arith, used-more _ _ _ c.requires.kept_len (omega arith) _ _ _ c.loop-f.invariant.1 c.requires.new_inside c.mark_new.ensures)

pub shape_of-used : goal.shape_of-used
shape_of-used c = c.loop-f.invariant.1.places

pub returns : goal.returns
returns c = marked-map _ _ _ (used_all c.args.kept.now _ c.loop-f.f _ _ c.loop-f.invariant.1 c.requires.kept_len (omega arith))

use native.Mathlib.Omega.{arith}
use Rattle.finish_books.proofs.StepLaws.{right-at, steps-none, place_none, next-there, steps-more, steps-known, steps_all}
use borrow.Author.Rules.{rules}
use Rattle.finish_books.proofs.groups.set_slots.Goals as goal

pub loop-i-init : goal.loop-i-init
loop-i-init c = (omega arith, steps-none _ _ c.args.units.now c.args.crcs.now _ c.requires.groups_right, place_none _ _ _ _, search rules)

pub place_of-place-requires : goal.place_of-place-requires
place_of-place-requires c = record { n_in_bounds = c.loop-i.invariant.1.right.places; place_known = c.loop-i.invariant.2; groups_value = next-there _ _ _ c.loop-i.i _ _ _ _ c.requires.units_len (omega arith) c.loop-i.invariant.1 c.requires.all_there }

pub overflow_mul-place : goal.overflow_mul-place
overflow_mul-place c = let p = c.loop-i.invariant.1.right.places in let q = c.place_of-place.ensures.0 in search rules

pub put_slot-requires : goal.put_slot-requires
put_slot-requires c = let p = c.loop-i.invariant.1.right.places in let q = c.place_of-place.ensures.0 in record { group_bytes_in_bounds = (omega arith, omega arith); groups_value = right-at _ _ _ c.loop-i.invariant.1.right q }

pub loop-i-preserved : goal.loop-i-preserved
loop-i-preserved c = (omega arith, steps-more _ _ _ c.loop-i.i c.args.units.now _ _ _ c.requires.units_len (omega arith) c.loop-i.invariant.1 _ _ c.loop-i.invariant.3 (search rules) c.place_of-place.ensures c.put_slot.ensures, steps-known _ _ _ c.loop-i.i c.args.units.now _ _ _ c.requires.units_len (omega arith) c.loop-i.invariant.1 _ _ c.loop-i.invariant.3 (search rules) c.place_of-place.ensures c.put_slot.ensures, search rules)

pub shape_of-groups : goal.shape_of-groups
shape_of-groups c = c.loop-i.invariant.1.bytes

pub returns : goal.returns
returns c = steps_all _ _ _ c.loop-i.i _ _ _ _ c.loop-i.invariant.1 c.requires.units_len (omega arith)

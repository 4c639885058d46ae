use Rattle.lent.proofs.PlaceLaws.{same-places}
use mathlib.Core.Path.{refl, ◌∙◌}
use native.Mathlib.Omega.{arith}
use Rattle.batch.proofs.BatchLaws.{between_first, bytes-there, between-stopped, between_more, between-last}
use borrow.Author.Rules.{rules}
use Rattle.batch.proofs.write_all.Goals as goal

pub loop-i-init : goal.loop-i-init
loop-i-init c = let p = c.requires in (omega arith, record { image = refl; head = refl; cards = refl; extents = refl; groups = refl; used = refl; retired = refl }, between_first _ _ _ _ _ _ p.store_ready p.unshared p.list_value)

pub overflow_add-end : goal.overflow_add-end
overflow_add-end c = record { fits = omega (arith, bytes-there _ _ _ _ _ _ _ _ _ _ _ refl c.loop-i.invariant.2 _ c.loop-i-test.true c.triple_at-t.ensures) }

pub slice_bounds-write_next-end : goal.slice_bounds-write_next-end
slice_bounds-write_next-end c = bytes-there _ _ _ _ _ _ _ _ _ _ _ refl c.loop-i.invariant.2 _ c.loop-i-test.true c.triple_at-t.ensures

pub write_next-number-requires : goal.write_next-number-requires
write_next-number-requires c = let v = c.loop-i.invariant.2 in record { tested = v.tested; lent_bytes = v.lent_bytes }

pub returns-then-number-ne0-clause-done : goal.returns-then-number-ne0-clause-done
returns-then-number-ne0-clause-done c = between-stopped _ _ _ _ _ _ _ _ _ _ _ refl c.loop-i.invariant.2 _ c.loop-i-test.true c.triple_at-t.ensures _ _ c.write_next-number.ensures.done c.if-number-ne0.true

pub loop-i-preserved : goal.loop-i-preserved
loop-i-preserved c =
    let v = c.loop-i.invariant in
    let t = c.loop-i-test.true in
    let h = c.write_next-number in
    let f = c.ranges in
    let n =
    between_more _ _ _ _ _ _ _ _ _ _ _ refl v.2 _ t c.triple_at-t.ensures _ _ h.ensures.done
    (search rules) (search rules) (f.seconds.fits, f.nanoseconds.fits) c.if-number-ne0.false in (
      omega (arith, t),
      same-places v.1 h.ensures.same_places,
      record { room = n.room; lent_bytes = n.lent_bytes; tested = n.tested; safe = n.safe; same = n.same },
    )

pub returns-clause-done : goal.returns-clause-done
returns-clause-done c = between-last _ _ _ _ _ _ _ _ _ _ _ refl c.loop-i.invariant.2 c.loop-i.invariant.0 c.loop-i-test.false

use native.Mathlib.Omega.{arith}
use mathlib.Core.Path.{refl, ◌∙◌}
use lib.ListN.{length-set}
use Rattle.mapping.proofs.HeldLaws.{holding-none, holding-room, holding-more, holding-stops, holding-ends}
use borrow.Author.Rules.{rules}
use mathlib.Core.Bool.{not}
use mathlib.Core.Path.{ap}
use Rattle.mapping.proofs.extents.hold_ahead.Goals as goal

pub loop-k-init : goal.loop-k-init
loop-k-init c = (refl, omega arith, holding-none _ _ _ _ _ _ c.requires.place_le_n)

pub returns-then-not-starts_before : goal.returns-then-not-starts_before
returns-then-not-starts_before c = search (holding-stops, rules)

pub offset_bounds-held-k : goal.offset_bounds-held-k
offset_bounds-held-k c =
    let q = holding-room _ _ _ _ _ _ _ c.loop-k.invariant.2 _ c.decode_extent-e.ensures _ c.starts_before.ensures
    c.requires.extents_right c.requires.room_ahead c.loop-k-test.true (ap not c.if-not-starts_before.false) in
    record { fits = omega (arith, q) }

pub bounds-held-k : goal.bounds-held-k
bounds-held-k c =
    holding-room _ _ _ _ _ _ _ c.loop-k.invariant.2 _ c.decode_extent-e.ensures _ c.starts_before.ensures
    c.requires.extents_right c.requires.room_ahead c.loop-k-test.true (ap not c.if-not-starts_before.false)

pub loop-k-preserved : goal.loop-k-preserved
loop-k-preserved c =
    let q = holding-room _ _ _ _ _ _ _ c.loop-k.invariant.2 _ c.decode_extent-e.ensures _ c.starts_before.ensures
    c.requires.extents_right c.requires.room_ahead c.loop-k-test.true (ap not c.if-not-starts_before.false) in
    let z = c.loop-k.invariant.0 in
    (length-set c.loop-k.held c.loop-k.k c.decode_extent-e.result ∙ z, omega (arith, q), holding-more _ _ _ _ _ _ _ c.loop-k.invariant.2 _ c.decode_extent-e.ensures _ c.starts_before.ensures (omega (arith, q, z)) c.loop-k-test.true (ap not c.if-not-starts_before.false))

pub returns : goal.returns
returns c = search (holding-ends, rules)

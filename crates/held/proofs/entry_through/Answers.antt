-- `held::entry_through` meets its contract.
-- Assumes nothing.
use mathlib.Core.Path.{refl}
use native.Mathlib.Omega.{arith}
use Rattle.held.proofs.SearchLaws.{through_not, through-yes, through-low, through-device}
use borrow.Author.Rules.{rules}
use mathlib.Core.Bool.{not}
use mathlib.Core.Path.{ap}
use Rattle.held.proofs.entry_through.Goals as goal

pub returns-then-not-covers : goal.returns-then-not-covers
returns-then-not-covers c = search (through_not, rules)

pub block_of-requires : goal.block_of-requires
block_of-requires c =
    let d = through-device _ _ _ _ c.covers.ensures (ap not c.if-not-covers.false) c.requires in
    record { self_bound = through-low _ _ _ _ c.covers.ensures (ap not c.if-not-covers.false); self_bound_2 = omega (arith, d) }

pub overflow_add-result : goal.overflow_add-result
overflow_add-result c =
    let d = through-device _ _ _ _ c.covers.ensures (ap not c.if-not-covers.false) c.requires in
    record { fits = omega (arith, d, c.block_of.ensures) }

pub overflow_cast-result : goal.overflow_cast-result
overflow_cast-result c =
    let d = through-device _ _ _ _ c.covers.ensures (ap not c.if-not-covers.false) c.requires in
    record { fits = omega (arith, d, c.block_of.ensures) }

pub returns : goal.returns
returns c = through-yes _ _ _ _ c.covers.ensures (ap not c.if-not-covers.false) _ _ c.block_of.ensures refl

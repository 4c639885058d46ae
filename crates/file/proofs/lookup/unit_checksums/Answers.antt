use mathlib.Core.Path.{◌≡◌, refl, ◌∙◌}
use Prim.Native.Nat.{◌+◌, ◌-◌}
use native.Mathlib.Omega.{arith}
use lib.ListN.{length, take, drop}
use borrow.Rule.Slice.PartMut.{same_len_mid}
use Rattle.file.proofs.LookUpLaws.{no-unit, unit-length, more-unit, all-units}
use Rattle.file.proofs.lookup.unit_checksums.Goals as goal

pub loop-j-init : goal.loop-j-init
loop-j-init c = (omega arith, refl, no-unit _ _ _)

pub unit_slots-requires : goal.unit_slots-requires
unit_slots-requires c = let p = c.requires in let j = c.loop-j.j in let l = unit-length c.loop-j.slots j _ _ c.loop-j.invariant.1 p.slots_len c.loop-j-test.true in let h = p.by_index j in record { n_in_bounds = p.n_in_bounds; slots_bound = omega (arith, l, h) }

pub loop-j-preserved : goal.loop-j-preserved
loop-j-preserved c =
    let p = c.requires in
    let j = c.loop-j.j in
    let slots = c.loop-j.slots in
    let new = c.unit_slots.new.slots in
    let v = c.loop-j.invariant in
    let t = c.loop-j-test.true in
    let l = unit-length slots j _ _ v.1 p.slots_len t in
    let e = c.unit_slots.ensures in
    let m : length new ≡ length (take (j + 1 - j) (drop j slots)) = omega (arith, c.unit_slots.auto.slots) in
    (omega (arith, t), same_len_mid j (j + 1 - j) slots new m ∙ v.1, more-unit _ _ slots new j (length (take (j + 1 - j) (drop j slots))) (omega (arith, v.1, p.slots_len, t)) l m v.2 e.0 e.1)

pub returns : goal.returns
returns c = all-units _ _ _ _ _ (omega arith) c.loop-j.invariant.2

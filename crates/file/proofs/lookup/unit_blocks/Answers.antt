use mathlib.Core.Path.{◌≡◌, refl, sym, ◌∙◌}
use Prim.Native.Nat.{◌+◌, ◌-◌, ◌*◌}
use native.Mathlib.Omega.{arith}
use lib.ListN.{length, take, drop}
use borrow.Rule.Slice.PartMut.{same_len_mid}
use Rattle.file.proofs.LookUpLaws.{no_block, block-length, looked-up, more-block, all_blocks}
use Rattle.file.proofs.lookup.unit_blocks.Goals as goal

pub loop-j-init : goal.loop-j-init
loop-j-init c = (omega arith, refl, no_block _ _ _)

pub overflow_mul-first : goal.overflow_mul-first
overflow_mul-first c = let h = c.requires.by_index c.loop-j.j in record { fits = omega (arith, h) }

pub map_blocks-requires : goal.map_blocks-requires
map_blocks-requires c = let p = c.requires in let j = c.loop-j.j in let l = block-length c.loop-j.old j _ _ c.loop-j.invariant.1 p.len c.loop-j-test.true in let h = p.by_index j in record { extents_right = p.extents_right; blocks_len_bound = omega (arith, l); blocks_bound = omega (arith, l, h) }

pub loop-j-preserved : goal.loop-j-preserved
loop-j-preserved c =
    let p = c.requires in
    let j = c.loop-j.j in
    let old = c.loop-j.old in
    let new = c.map_blocks.new.blocks in
    let v = c.loop-j.invariant in
    let t = c.loop-j-test.true in
    let l = block-length old j _ _ v.1 p.len t in
    let e = c.map_blocks.ensures in
    let m : length new ≡ 16 = omega (arith, l, c.map_blocks.auto.blocks) in
    (omega (arith, t), same_len_mid (16 * j) (16 * j + 16 - 16 * j) old new (m ∙ sym l) ∙ v.1, more-block _ _ old new j (16 * j + 16 - 16 * j) (omega (arith, v.1, p.len, t)) m v.2 (looked-up _ new _ (length (take (16 * j + 16 - 16 * j) (drop (16 * j) old))) l e.0) e.1)

pub returns : goal.returns
returns c = all_blocks _ _ _ _ _ (omega arith) c.loop-j.invariant.2

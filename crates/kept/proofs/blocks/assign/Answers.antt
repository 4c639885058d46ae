use native.Mathlib.Omega.{arith}
use Rattle.kept.proofs.BlocksLaws.{assigning-none, assigning-room, assigning-more, assigning-all}
use Rattle.kept.proofs.blocks.assign.Goals as goal

pub loop-i-init : goal.loop-i-init
loop-i-init c = assigning-none _ _ _

pub block_at-requires : goal.block_at-requires
block_at-requires c =
    let room = assigning-room _ _ _ _ _ c.loop-i.invariant c.loop-i-test.true c.requires.kept_in_bounds in
    ((λ z. omega (arith, room z, c.requires.kept_in_bounds)), (λ z. c.requires.by_index _ (room z)))

pub loop-i-preserved : goal.loop-i-preserved
loop-i-preserved c = assigning-more _ _ _ _ _ c.loop-i.invariant c.loop-i-test.true c.requires.kept_in_bounds _ _ (omega arith) c.block_at.ensures c.missing-j.ensures

pub returns : goal.returns
returns c = assigning-all _ _ _ _ _ c.loop-i.invariant (omega arith)

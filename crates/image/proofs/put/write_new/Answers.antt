use mathlib.Core.Path.{ap, ◌∙◌}
use native.Mathlib.Omega.{arith}
use lib.ListN.{length}
use Rattle.image.proofs.PutLaws.{put-new, put-kept, put_all}
use borrow.Author.Rules.{rules}
use Rattle.image.proofs.put.write_new.Goals as goal
use Rattle.image.proofs.put.write_new.Goals.{then-kept-i-eq0, else-kept-i-eq0}

pub write_block-requires : goal.write_block-requires
write_block-requires c = record { block_bytes_in_bounds = omega (arith, c.requires.by_index _ c.loop-i-test.true); i_lt_unit_blocks = omega arith }

pub loop-i-preserved : goal.loop-i-preserved
loop-i-preserved c =
    elim c.if-kept-i-eq0.branch [
      | then-kept-i-eq0 w ↦ (
        omega (arith, ap length w.image-is),
        put-new _ _ _ _ c.requires.kept_len _ _ _ c.loop-i.invariant.1 c.loop-i-test.true w.if-kept-i-eq0.true (w.image-is ∙ w.write_block.ensures),
      )
      | else-kept-i-eq0 w ↦ (
        omega (arith, ap length w.image-is),
        put-kept _ _ _ _ c.requires.kept_len _ _ _ c.loop-i.invariant.1 c.loop-i-test.true w.if-kept-i-eq0.false w.image-is,
      )
    ]

pub returns : goal.returns
returns c = search (put_all, rules)

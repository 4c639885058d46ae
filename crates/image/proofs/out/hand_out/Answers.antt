use mathlib.Core.Path.{refl}
use native.Mathlib.Omega.{arith}
use Rattle.image.proofs.OutLaws.{out_none, out-more, out-all}
use borrow.Author.Rules.{rules}
use Rattle.image.proofs.out.hand_out.Goals as goal

pub loop-d-init : goal.loop-d-init
loop-d-init c = search (out_none, rules)

pub put_piece-requires : goal.put_piece-requires
put_piece-requires c = record { m_bound = omega arith; block_bytes_in_bounds = c.requires.inside.each _; m_in_bounds = omega arith }

pub loop-d-preserved : goal.loop-d-preserved
loop-d-preserved c = (
  omega arith,
  omega (arith, c.put_piece.auto.out),
  out-more _ _ _ _ _ c.requires.inside (omega arith) (omega arith) _ _ _ _ _ _ c.loop-d.invariant.2 (omega arith) refl refl c.min-m.ensures c.put_piece.ensures,
)

pub returns : goal.returns
returns c = search (out-all, rules)

-- `rewrite::lay_out` meets its contract.
-- Assumes nothing.
use mathlib.Core.Path.{refl}
use native.Mathlib.Omega.{arith}
use Rattle.rewrite.proofs.LaidLaws.{lays-full, lays-fewer, lays_more, lays-done}
use Rattle.rewrite.proofs.lay_out.Goals as goal

pub returns-then-not-g : goal.returns-then-not-g
returns-then-not-g c = record { rewritten_value = (c.refused.ensures.1, omega (arith, c.refused.ensures.2, c.requires.unit_bytes_bound.1)); lays = (λ k used taken h f. lays-full _ used taken _ _ _ k _ _ _ _ _ _ _ _ _ (c.retained_blocks-n.ensures.retained k h) (c.give_blocks-g.ensures.by_index used taken f) c.if-not-g.true c.refused.ensures.0) }

pub returns-then-allocated-gone : goal.returns-then-allocated-gone
returns-then-allocated-gone c = record { rewritten_value = (c.refused-then-allocated-gone.ensures.1, omega (arith, c.refused-then-allocated-gone.ensures.2, c.requires.unit_bytes_bound.1)); lays = (λ k used taken h f. lays-fewer _ used taken _ _ _ k _ _ _ _ _ _ _ _ _ (c.retained_blocks-n.ensures.retained k h) (c.give_blocks-g.ensures.by_index used taken f) c.if-not-g.false _ c.count_superseded-gone.ensures.0 (omega arith) c.refused-then-allocated-gone.ensures.0) }

pub counted-count-requires : goal.counted-count-requires
counted-count-requires c = (omega arith, omega (arith, c.give_blocks-g.ensures.count_le_unit_blocks, c.requires.unit_bytes_bound.1))

pub returns-then-count-gt-MOST_ALLOCATED : goal.returns-then-count-gt-MOST_ALLOCATED
returns-then-count-gt-MOST_ALLOCATED c = record { rewritten_value = (c.refused-then-count-gt-MOST_ALLOCATED.ensures.1, omega (arith, c.refused-then-count-gt-MOST_ALLOCATED.ensures.2, c.requires.unit_bytes_bound.1)); lays = (λ k used taken h f. lays_more _ used taken _ _ _ k _ _ _ _ _ _ _ _ _ (c.retained_blocks-n.ensures.retained k h) (c.give_blocks-g.ensures.by_index used taken f) c.if-not-g.false _ c.count_superseded-gone.ensures.0 (omega arith) c.refused-then-count-gt-MOST_ALLOCATED.ensures.0) }

pub returns : goal.returns
returns c = record { rewritten_value = (refl, omega arith); lays = (λ k used taken h f. lays-done _ used taken _ _ _ k _ _ _ _ _ _ _ _ _ (c.retained_blocks-n.ensures.retained k h) (c.give_blocks-g.ensures.by_index used taken f) c.if-not-g.false _ c.count_superseded-gone.ensures.0 (omega arith) (omega arith) refl refl c.counted-count.ensures refl (omega (arith, c.retained_blocks-n.auto, c.requires.len.1)) c.retained_blocks-n.ensures.from_old) }

-- `bitmap::fill_bytes` meets its contract.
-- Assumes nothing.
use Rattle.std.proofs.Common.{arith, sym, ◌∙◌}
use Rattle.rules.proofs.ListLaws.{if-true, if-false}
use Rattle.bitmap.proofs.MapLaws.{fill-part}
use Rattle.bitmap.proofs.fill_bytes.Goals as goal
use Rattle.bitmap.proofs.fill_bytes.Goals.{then-value, else-value}

pub returns : goal.returns
returns c =
    fill-part _ _ _ _ _ _ (c.fill.ensures.after (λ y e. e))
    (elim c.if-value.branch [ then-value w ↦ w.fill-is ∙ sym (if-true _ _ _ w.if-value.true) | else-value w ↦ w.fill-is ∙ sym (if-false _ _ _ w.if-value.false) ])
    (omega arith) (omega arith) (omega arith) (omega arith) (λ k. (c.type_inv.m k).fits)

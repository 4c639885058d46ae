use native.Mathlib.Omega.{arith}
use mathlib.Core.Path.{sym, ◌∙◌}
use Rattle.rules.proofs.ListLaws.{if-true, if-false}
use Rattle.kept.proofs.RetainedLaws.{choosing-none, choosing-more, choosing-all}
use Rattle.kept.proofs.Change.candidates.Goals as goal
use Rattle.kept.proofs.Change.candidates.Goals.{then-is_intact, else-is_intact}

pub loop-i-init : goal.loop-i-init
loop-i-init c = choosing-none _ _ _ _ _ _

pub loop-i-preserved : goal.loop-i-preserved
loop-i-preserved c =
    choosing-more _ _ _ _ _ _ _ c.loop-i.invariant (omega arith) _ c.is_intact.ensures _
    (elim c.if-is_intact.branch [
      | then-is_intact w ↦ w.entry-is ∙ sym (if-true _ _ _ w.if-is_intact.true)
      | else-is_intact w ↦ w.entry-is ∙ sym (if-false _ _ _ w.if-is_intact.false)
    ])

pub returns : goal.returns
returns c = choosing-all _ _ _ _ _ _ _ c.loop-i.invariant (omega arith) _ c.loop-i.auto.kept

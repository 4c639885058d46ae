-- `intake::refused` meets its contract.
-- Assumes nothing.
use mathlib.Core.Path.{sym, ◌∙◌}
use Rattle.intake.proofs.JoinLaws.{lengths-right, rule-image, number-one, number-two, number-none}
use Rattle.intake.proofs.refused.Goals as goal

pub returns-then-lengths_wrong : goal.returns-then-lengths_wrong
returns-then-lengths_wrong c = number-one _ _ c.lengths_wrong.ensures c.if-lengths_wrong.true

pub rule_broken-requires : goal.rule_broken-requires
rule_broken-requires c = lengths-right _ (sym c.lengths_wrong.ensures ∙ c.if-lengths_wrong.false)

pub returns-then-rule_broken : goal.returns-then-rule_broken
returns-then-rule_broken c = number-two _ _ _ c.lengths_wrong.ensures c.if-lengths_wrong.false (c.rule_broken.ensures ∙ rule-image _ _ _ _ _ _ _ _) c.if-rule_broken.true

pub returns : goal.returns
returns c = number-none _ _ _ _ c.lengths_wrong.ensures c.if-lengths_wrong.false (c.rule_broken.ensures ∙ rule-image _ _ _ _ _ _ _ _) c.if-rule_broken.false

-- `kept::kept::within_limit` meets its contract. Assumes nothing.
use Rattle.kept.proofs.RetainedLaws.{limited-over, limited-within}
use Rattle.kept.proofs.kept.within_limit.Goals as goal

pub returns-then-limit-runs : goal.returns-then-limit-runs
returns-then-limit-runs c = limited-over _ _ _ _ c.requires.1 c.runs.ensures.0 c.if-limit-runs.true _ (c.fill.ensures.after (λ y h. h))

pub returns-else-limit-runs : goal.returns-else-limit-runs
returns-else-limit-runs c = limited-within _ _ _ _ c.requires.1 c.runs.ensures.0 c.if-limit-runs.false c.requires.0 _ (c.fill-else-limit-runs.ensures.after (λ y h. h))

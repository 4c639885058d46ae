-- `batch::tried` meets its contract.
-- Assumes nothing.
use mathlib.Core.Path.{ap, ◌∙◌}
use Rattle.format.specs.Refusals.{number_in}
use Rattle.intake.specs.Join.{store_number}
use Rattle.batch.proofs.BatchLaws.{none-comes}
use Rattle.batch.proofs.tried.Goals as goal

pub returns-then-not-again : goal.returns-then-not-again
unfolding number_in
returns-then-not-again c = none-comes _ (c.requires c.if-not-again.true)

pub returns : goal.returns
returns c = c.refused.ensures ∙ ap store_number c.view.ensures

-- `rewrite::counted` meets its contract.
-- Assumes nothing.
use mathlib.Core.Path.{ap}
use Rattle.format.specs.declared.card.Card.{Card}
use Rattle.rewrite.proofs.counted.Goals as goal

pub returns : goal.returns
returns c = ap (λ (x : Card). x.allocated) c.card_after-after.ensures

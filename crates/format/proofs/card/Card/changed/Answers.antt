-- `format::card::Card::changed` meets its contract.
-- Assumes nothing.
use mathlib.Core.Path.{refl}
use Rattle.rules.specs.Finish.{changed_card}
use Rattle.format.specs.Records.{card_of}
use Rattle.format.proofs.card.Card.changed.Goals as goal

pub returns : goal.returns
unfolding card_of changed_card
returns c = refl

-- `format::card::new_card` meets its contract.
-- Assumes nothing.
use mathlib.Core.Path.{refl}
use Rattle.rules.specs.Enter.{new_card}
use Rattle.format.specs.Records.{card_of}
use Rattle.format.proofs.card.new_card.Goals as goal

pub returns : goal.returns
unfolding card_of new_card
returns c = refl

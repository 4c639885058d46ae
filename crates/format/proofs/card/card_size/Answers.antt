-- `format::card::card_size` meets its contract.
-- Assumes nothing.
use native.Mathlib.Omega.{arith}
use borrow.Author.Rules.{rules}
use Rattle.format.proofs.CardWords.{size-read}
use Rattle.format.proofs.card.card_size.Goals as goal

pub returns : goal.returns
returns c = (size-read _ _ (search rules) c.requires _ c.be64.ensures, omega (arith, c.be64.type_inv))

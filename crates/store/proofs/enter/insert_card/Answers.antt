-- `store::enter::insert_card` meets its contract.
-- Assumes nothing.
use Rattle.store.proofs.EnterLaws.{inserted}
use native.Mathlib.Omega.{arith}
use mathlib.Core.Path.{refl}
use borrow.Author.Rules.{rules}
use Rattle.store.proofs.enter.insert_card.Goals as goal

pub returns : goal.returns
returns c = inserted _ (omega arith) c.requires.card_fits _ _ refl c.encode_card.ensures _ _ _ _ c.requires.cards_right c.requires.n_in_bounds (search rules) c.first_card-i.ensures c.splice_records.ensures

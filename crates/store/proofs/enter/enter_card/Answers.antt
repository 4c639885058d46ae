-- `store::enter::enter_card` meets its contract.
-- Assumes nothing.
use native.Mathlib.Omega.{arith}
use Rattle.store.proofs.EnterLaws.{new-said}
use Rattle.store.proofs.enter.enter_card.Goals as goal

pub insert_card-requires : goal.insert_card-requires
insert_card-requires c =
    let r = c.requires in
    record { cards_right = r.right; n_in_bounds = r.room; card_fits = new-said _ _ _ c.new_card-c.ensures (omega arith) r.early r.part }

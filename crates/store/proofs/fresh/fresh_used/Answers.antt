-- `store::fresh::fresh_used` meets its contract.
-- Assumes nothing.
use Rattle.store.proofs.MapLaws.{first-map, zeros-hold}
use native.Mathlib.Omega.{arith}
use Rattle.store.proofs.fresh.fresh_used.Goals as goal

pub set_range-requires : goal.set_range-requires
set_range-requires c = (omega arith, zeros-hold _ _ _ _ c.requires.0 (c.fill.ensures.after (λ y e. e)) c.requires.1)

pub returns : goal.returns
returns c = first-map _ _ _ _ _ c.requires.0 (c.fill.ensures.after (λ y e. e)) c.set_range.ensures

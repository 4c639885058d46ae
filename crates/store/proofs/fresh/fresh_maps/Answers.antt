-- `store::fresh::fresh_maps` meets its contract.
-- Assumes nothing.
use Rattle.store.proofs.MapLaws.{zero-map}
use borrow.Author.Rules.{rules}
use Rattle.store.proofs.fresh.fresh_maps.Goals as goal

pub returns : goal.returns
returns c = search (zero-map, rules)

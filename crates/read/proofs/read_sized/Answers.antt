-- `read::read_sized` meets its contract.
-- Assumes nothing.
use Rattle.format.specs.Refusals.{number_in, count_in}
use Rattle.read.proofs.GivesLaws.{read-within, sized-none, sized-some}
use Rattle.read.proofs.read_sized.Goals as goal

pub returns-then-n-eq0 : goal.returns-then-n-eq0
unfolding number_in count_in
returns-then-n-eq0 c = sized-none _ _ _ _ _ _ _ _ _ _ _ c.read_length-n.ensures c.if-n-eq0.true

pub read_units-requires : goal.read_units-requires
read_units-requires c = let p = c.requires in let w = read-within _ _ _ _ c.read_length-n.ensures c.if-n-eq0.false in record { readable = p; n_nonzero = (w.0, w.1); n_bound = w.2; n_in_bounds = w.3 }

pub returns : goal.returns
returns c = sized-some _ _ _ _ _ _ _ _ _ _ _ c.read_length-n.ensures c.if-n-eq0.false _ _ _ c.read_units.ensures

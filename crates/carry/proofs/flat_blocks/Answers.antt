-- `carry::flat_blocks` meets its contract.
-- Assumes nothing.
use Rattle.carry.proofs.CarryLaws.{flat-none, last-inside, flat-counted}
use Rattle.carry.proofs.flat_blocks.Goals as goal

pub returns-then-n-eq0 : goal.returns-then-n-eq0
returns-then-n-eq0 c = λ d e. flat-none _ c.if-n-eq0.true d

pub valid_length-valid-requires : goal.valid_length-valid-requires
valid_length-valid-requires c =
    let p = c.requires in
    last-inside _ c.args.units.now p.new_size_le_most_size.0 c.if-n-eq0.false p.by_index

pub returns : goal.returns
returns c = flat-counted _ _ _ c.if-n-eq0.false c.valid_length-valid.ensures.0

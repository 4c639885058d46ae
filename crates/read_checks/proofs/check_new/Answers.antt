-- `read_checks::check_new` meets its contract.
-- Assumes nothing.
use Rattle.format.specs.Refusals.{number_in}
use Rattle.read_checks.proofs.StretchLaws.{new-seen, new-inspected}
use Rattle.read_checks.proofs.check_new.Goals as goal

pub returns-then-seen_before : goal.returns-then-seen_before
unfolding number_in
returns-then-seen_before c = new-seen _ _ _ _ _ _ _ c.seen_before.ensures c.if-seen_before.true c.requires.unit_value

pub returns : goal.returns
returns c = new-inspected _ _ _ _ _ _ _ c.seen_before.ensures c.if-seen_before.false _ _ c.check_unit.ensures

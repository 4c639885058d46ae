-- `kept::Change::put_tail` meets its contract. Each return is one part of the test. Assumes nothing.
use Rattle.kept.proofs.UnitsLaws.{tail-same, tail-whole, tail-touched, tail-put}
use Rattle.kept.proofs.Change.put_tail.Goals as goal

pub returns-then-self : goal.returns-then-self
returns-then-self c = tail-same _ _ _ c.args.units.now c.if-self.true

pub returns-then-self-eq0 : goal.returns-then-self-eq0
returns-then-self-eq0 c = tail-whole _ _ _ c.args.units.now c.if-self-eq0.true

pub returns-then-first-tail : goal.returns-then-first-tail
returns-then-first-tail c = tail-touched _ _ _ c.args.units.now c.if-first-tail.true

pub returns : goal.returns
returns c = tail-put _ _ _ c.args.units.now c.requires c.if-self.false c.if-self-eq0.false c.if-first-tail.false

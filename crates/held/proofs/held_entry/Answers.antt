use Rattle.held.proofs.SearchLaws.{passed_none, passed_here, passed-more, passed-all}
use Rattle.held.proofs.held_entry.Goals as goal

pub loop-i-init : goal.loop-i-init
loop-i-init c = passed_none _ _ _ _ c.requires.room

pub returns-then-r-ne0 : goal.returns-then-r-ne0
returns-then-r-ne0 c = passed_here _ _ _ _ c.requires.room _ c.loop-i.invariant c.loop-i-test.true _ c.entry_at-r.ensures c.if-r-ne0.true

pub loop-i-preserved : goal.loop-i-preserved
loop-i-preserved c = passed-more _ _ _ _ c.requires.room _ c.loop-i.invariant c.loop-i-test.true _ c.entry_at-r.ensures c.if-r-ne0.false

pub returns : goal.returns
returns c = passed-all _ _ _ _ c.requires.room _ c.loop-i.invariant c.loop-i-test.false

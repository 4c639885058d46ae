-- `kept::tests::reads_old` meets its contract. Each return is one law of the test. Assumes nothing.
use borrow.Author.Tests.{lt-ltb}
use Rattle.kept.proofs.ChangeLaws.{reads_nothing, reads-front, reads_end}
use Rattle.kept.proofs.tests.reads_old.Goals as goal

pub returns-then-start-offset : goal.returns-then-start-offset
returns-then-start-offset c = λ ch after is. rw (lt-ltb _ _ c.if-start-offset.true) (reads-front ch _ _ _ _ is _ _ c.valid_length-old_valid.ensures.0 c.if-old_valid-ne0.true c.if-start-offset.true)

pub returns-else-start-offset : goal.returns-else-start-offset
returns-else-start-offset c = λ ch after is. reads_end ch _ _ _ _ is _ _ c.valid_length-old_valid.ensures.0 c.if-old_valid-ne0.true c.if-start-offset.false

pub returns-else-old_valid-ne0 : goal.returns-else-old_valid-ne0
returns-else-old_valid-ne0 c = λ ch after is. rw c.if-old_valid-ne0.false (reads_nothing ch _ _ _ _ is _ _ c.valid_length-old_valid.ensures.0 c.if-old_valid-ne0.false)
